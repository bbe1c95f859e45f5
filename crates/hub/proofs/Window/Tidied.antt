-- The tidying of a ring of places beside that of the cells: both loops, on whatever tracks them.
use Prim.Native.Nat.{ℕ, zero, suc, ◌+◌, ◌≤◌, ◌<◌}
use mathlib.Core.Path.{◌≡◌, refl, sym, ap, subst, ◌∙◌}
use mathlib.Core.Bool.{Bool, true, false, cond, ◌&&◌}
use mathlib.Core.List.{List}
use native.Mathlib.Omega.{arith}
use borrow.Author.Tests.{ltb-true, ltb-false}
use lib.Dec.{ltb}
use Rattle.hub.specs.declared.record.Phase.{Phase}
use Rattle.hub.specs.declared.record.Place.TheVariants.{Cancelled, Done}
use Rattle.hub.specs.declared.record.PlaceSlot.{PlaceSlot}
use Rattle.hub.specs.Phases.{is_place_of, is_cancelled}
use Rattle.hub.specs.Queue.{write}
use Rattle.hub.specs.Record.{empty_seat, with_place}
use Rattle.hub.specs.Refinement.{Window}
use Rattle.hub.specs.Ring.{PLACES, Ring, read_place, read_seat, write_seat, can_skip, skipped, skip}
use Rattle.hub.specs.Ring.{can_retire, retired, retire, reclaimed}
use Rattle.hub.proofs.Laws.Phases.{place_of}
use Rattle.hub.proofs.Laws.Seats.{written-size}
use Rattle.hub.proofs.Invariant.Weights.{lt-pos, spent}
use Rattle.hub.proofs.Invariant.Skipped.{skipped-tickets}
use Rattle.hub.proofs.Window.Ring.{window-write, window-up}
use Rattle.hub.proofs.Window.Tracked.{Tracked, low, high}

-- What the tidying moves of an unbounded queue: the next ticket to resume, and the cells.
pub record CellQueue : Type 0 where
  pub resumed : ℕ
  pub cells : ℕ → PlaceSlot

abbrev pub cells_from : ℕ → (ℕ → PlaceSlot) → CellQueue
cells_from t g = record { resumed = t; cells = g }

abbrev pub skipped_at : (ℕ → PlaceSlot) → ℕ → ℕ → PlaceSlot
skipped_at g t = write g t (with_place Done (g t))

-- Cancelled cells from ticket t on are skipped, at most n of them.
unfoldable pub skip_cells : ℕ → ℕ → (ℕ → PlaceSlot) → CellQueue
skip_cells zero t g = cells_from t g
skip_cells (suc n) t g = cond (is_cancelled (g t).place) (skip_cells n (t + 1) (skipped_at g t)) (cells_from t g)

abbrev pub ring : ℕ → ℕ → List PlaceSlot → Ring
ring t o a = record { resumed = t; oldest = o; places = a }

-- A ring that tracks such a queue.
pub record TrackedRing (l : List Phase) (s : Ring) (c : CellQueue) (n i b q e : ℕ) : Type 0 where
  pub resumed : s.resumed ≡ c.resumed
  pub tracked : Tracked l c.cells s.oldest s.places n i c.resumed b q e

module _ {l : List Phase} {g : ℕ → PlaceSlot} {o : ℕ} {a : List PlaceSlot} {n i r b q e : ℕ}
    (x : Tracked l g o a n i r b q e) where
  -- The ring's first test is that of the cells.
  skip-test : can_skip (ring r o a) ≡ is_cancelled (g r).place
  unfolding is_place_of
  skip-test = go (ltb r (o + PLACES)) refl
    where
      go : (y : Bool) → ltb r (o + PLACES) ≡ y
          → y && is_cancelled (read_place a r) ≡ is_cancelled (g r).place
      go true z =
          ap (λ (c : PlaceSlot). is_cancelled c.place)
          (sym (x.window.within r (omega (arith, low x)) (ltb-true _ _ z)))
      go false z =
          sym (ap (λ (c : PlaceSlot). is_cancelled c.place) (x.window.beyond r (ltb-false _ _ z)))

  -- A cancelled cell there has a ticket that was issued.
  issued-more : (g r).place ≡ Cancelled → r < i
  unfolding is_place_of
  issued-more c = lt-pos r i (omega (arith, (x.tickets.at r).owned, ap spent c))

  skipped-tracked : (g r).place ≡ Cancelled
      → Tracked l (skipped_at g r) o (skipped (ring r o a)).places n i (r + 1) b q e
  skipped-tracked c =
      record {
        size = written-size a x.size r _;
        window =
            subst
            (λ (d : PlaceSlot). Window o (skipped (ring r o a)).places (write g r (with_place Done d)))
            (sym (x.window.within r above below))
            (window-write o a g x.size x.window r (with_place Done (read_seat a r)) above below);
        tickets = skipped-tickets x.tickets c;
        room = x.room;
      }
    where
      above : o ≤ r
      above = omega (arith, low x)

      below : r < o + PLACES
      below = omega (arith, high x, issued-more c)

  retired-tracked : can_retire (ring r o a) ≡ true
      → Tracked l g (o + 1) (write_seat a o empty_seat) n i r b q e
  retired-tracked z =
      record {
        size = written-size a x.size o empty_seat;
        window = window-up o a g x.size x.window (place_of Done _ z);
        tickets = x.tickets;
        room = omega (arith, x.room);
      }

-- Both first loops run alike, however much fuel each has beyond the tickets issued.
skip-tracked : (k k' : ℕ) {l : List Phase} {g : ℕ → PlaceSlot} {o : ℕ} {a : List PlaceSlot}
    {n i r b q e : ℕ} → Tracked l g o a n i r b q e → i ≤ r + k → i ≤ r + k'
    → TrackedRing l (skip k (ring r o a)) (skip_cells k' r g) n i b q e
unfolding skip skip_cells
skip-tracked zero zero x y z = record { resumed = refl; tracked = x }
skip-tracked zero (suc k') {l} {g} {o} {a} {n} {i} {r} {b} {q} {e} x y z = go _ refl
  where
    go : (d : Bool) → is_cancelled (g r).place ≡ d
        → TrackedRing l (ring r o a) (cond d (skip_cells k' (r + 1) (skipped_at g r)) (cells_from r g)) n i b q e
    go false w = record { resumed = refl; tracked = x }
    go true w = let v : ⊥ = omega (arith, issued-more x (place_of Cancelled _ w)) in absurd v
skip-tracked (suc k) zero {l} {g} {o} {a} {n} {i} {r} {b} {q} {e} x y z = go _ refl
  where
    go : (d : Bool) → can_skip (ring r o a) ≡ d
        → TrackedRing l (cond d (skip k (skipped (ring r o a))) (ring r o a)) (cells_from r g) n i b q e
    go false w = record { resumed = refl; tracked = x }
    go true w =
        let v : ⊥ = omega (arith, issued-more x (place_of Cancelled _ (sym (skip-test x) ∙ w))) in absurd v
skip-tracked (suc k) (suc k') {l} {g} {o} {a} {n} {i} {r} {b} {q} {e} x y z =
    subst
    (λ (d : Bool).
    TrackedRing l (cond (can_skip (ring r o a)) (skip k (skipped (ring r o a))) (ring r o a))
    (cond d (skip_cells k' (r + 1) (skipped_at g r)) (cells_from r g)) n i b q e)
    (skip-test x)
    (go _ refl
    (λ w. skip-tracked k k' (skipped-tracked x (place_of Cancelled _ (sym (skip-test x) ∙ w))) (omega arith)
    (omega arith)))
  where
    go : (d : Bool) → can_skip (ring r o a) ≡ d
        → (can_skip (ring r o a) ≡ true
        → TrackedRing l (skip k (skipped (ring r o a))) (skip_cells k' (r + 1) (skipped_at g r)) n i b q e)
        → TrackedRing l (cond d (skip k (skipped (ring r o a))) (ring r o a))
        (cond d (skip_cells k' (r + 1) (skipped_at g r)) (cells_from r g)) n i b q e
    go false w f = record { resumed = refl; tracked = x }
    go true w f = f w

retire-tracked : (k : ℕ) {l : List Phase} {s : Ring} {c : CellQueue} {n i b q e : ℕ}
    → TrackedRing l s c n i b q e → TrackedRing l (retire k s) c n i b q e
unfolding retire
retire-tracked zero x = x
retire-tracked (suc k) {l} {s} {c} {n} {i} {b} {q} {e} x =
    go (can_retire s) refl
    (λ w. retire-tracked k (record { resumed = x.resumed; tracked = retired-tracked x.tracked w }))
  where
    go : (d : Bool) → can_retire s ≡ d
        → (can_retire s ≡ true → TrackedRing l (retire k (retired s)) c n i b q e)
        → TrackedRing l (cond d (retire k (retired s)) s) c n i b q e
    go false w f = x
    go true w f = f w

-- Tidied, the ring tracks the cells as far as the queue skips them.
pub tidied-tracked : {l : List Phase} {g : ℕ → PlaceSlot} {o : ℕ} {a : List PlaceSlot} {n i r b q e : ℕ} (t : ℕ)
    → t ≡ r → Tracked l g o a n i r b q e
    → TrackedRing l (reclaimed (ring t o a)) (skip_cells i r g) n i b q e
tidied-tracked {l} {g} {o} {a} {n} {i} {r} {b} {q} {e} t z x =
    subst (λ (u : ℕ). TrackedRing l (reclaimed (ring u o a)) (skip_cells i r g) n i b q e) (sym z)
    (retire-tracked PLACES
    (skip-tracked PLACES i x (omega (arith, low x, high x)) (omega arith)))
