-- What no event undoes, so that nobody else's place in a row is lost; and the tidying, which is nothing to the listings.
use Prim.Native.Nat.{ℕ, zero, suc, ◌+◌, ◌≤◌, ◌<◌}
use mathlib.Core.Path.{◌≡◌, sym, ap, refl, subst, ◌∙◌}
use mathlib.Core.Bool.{Bool, true, false, cond}
use mathlib.Core.Logic.{inl, inr}
use native.Mathlib.Decide.{ℕ_discrete}
use native.Mathlib.Omega.{arith}
use Rattle.hub.specs.declared.record.Phase.{Phase}
use Rattle.hub.specs.declared.record.Place.{Place}
use Rattle.hub.specs.declared.record.Place.TheVariants as place
use Rattle.hub.specs.declared.record.PlaceSlot.{PlaceSlot}
use Rattle.hub.specs.declared.record.Pool.{Pool}
use Rattle.listings.specs.Listings.Converse.{Follows, Passed, RowOver, Where, phase_of}
use Rattle.listings.specs.Listings.Machine.{Line, Listing, Request, is_null, unparks}
use Rattle.listings.specs.Listings.Machine.{Outside, Inside, Acquire9, Suspend6, Suspend9, Suspend10, Suspend12, Taking12}
use Rattle.listings.specs.Listings.Machine.{Release16, Resume2, Resume4, Resume7, Resume10, Resume11, Resume19}
use Rattle.listings.specs.Listings.Machine.{Resume26, Resume28, Handler45, Handler55}
use Rattle.listings.specs.Listings.Shown.{is_cancelled_cell, is_cell_of}
use Rattle.hub.specs.Phases.{is_done, is_place_of}
use Rattle.hub.specs.Queue.{Queue, can_skip, places, skip, skipped, with_pool}
use Rattle.hub.proofs.Laws.Bools.{never}
use Rattle.hub.proofs.Invariant.Rows.{write_same, write-other}
use Rattle.hub.proofs.Invariant.Schedules.{is-cancelled}

pub record Onward (m m' : Queue) (s s' : Listing) : Type 0 where
  pub up : s.resume_idx ≤ s'.resume_idx
  pub dones : (t : ℕ) → places m t ≡ place.Done → places m' t ≡ place.Done
  pub other : (t : ℕ) → places m t ≡ place.Done → is_cancelled_cell (s.cells t) ≡ false
      → is_cancelled_cell (s'.cells t) ≡ false
  pub kept : (t : ℕ) → places m t ≡ place.Done → is_cancelled_cell (s.cells t) ≡ true
      → is_cancelled_cell (s'.cells t) ≡ true
  pub seen : (t : ℕ) → is_null (s.cells t) ≡ false → is_null (s'.cells t) ≡ false
  pub fails : (q t : ℕ) → is_null (s.cells t) ≡ false → unparks q t s ≡ false → unparks q t s' ≡ false

module _ {m m' : Queue} {s s' : Listing} (o : Onward m m' s s') where
  over-kept : (i : ℕ) → RowOver m s i → RowOver m' s' i
  over-kept i z = record { done = o.dones i z.done; other = o.other i z.done z.other }

  pub passed-kept : (i : ℕ) → Passed m s i → Passed m' s' i
  passed-kept i z = record { done = o.dones i z.done; cancelled = o.kept i z.done z.cancelled }

  pub where-kept : (x : Line) (f : Phase) (g : Request) → Where x m s f g → Where x m' s' f g
  where-kept Outside f g z = z
  where-kept Inside f g z = z
  where-kept Acquire9 f g z = z
  where-kept Suspend6 f g z = z
  where-kept (Suspend9 i) f g z = z
  where-kept (Suspend10 i) f g z = z
  where-kept (Suspend12 i) f g z = (z.0, over-kept i z.1)
  where-kept (Taking12 i) f g z = (z.0, over-kept i z.1)
  where-kept Release16 f g z = z
  where-kept Resume2 f g z = z
  where-kept (Resume4 i) f g (inl z) = inl z
  where-kept (Resume4 i) f g (inr z) = inr (z.0, passed-kept i z.1)
  where-kept (Resume7 i) f g z = z
  where-kept (Resume10 i q) f g z = (z.0, o.seen i z.1)
  where-kept (Resume11 i) f g z = (z.0, over-kept i z.1)
  where-kept (Resume19 i q) f g z = (z.0, o.seen i z.1, o.fails q i z.1 z.2)
  where-kept (Resume26 i) f g z = z
  where-kept (Resume28 i) f g z = z
  where-kept (Handler45 i) f g z = z
  where-kept (Handler55 i) f g z = z

-- The listings stay, and the queue goes on.
stays : (m m' : Queue) (s : Listing) → ((t : ℕ) → places m t ≡ place.Done → places m' t ≡ place.Done) → Onward m m' s s
stays m m' s d =
    record {
      up = omega arith;
      dones = d;
      other = λ t e z. z;
      kept = λ t e z. z;
      seen = λ t z. z;
      fails = λ q t z y. y;
    }

-- A cancelled cell is passed.
skipped-follows : (m : Queue) (s : Listing) → Follows m s → places m m.figures.resumed ≡ place.Cancelled
    → Follows (skipped m) s
unfolding is_place_of
skipped-follows m s w c =
    let o = stays m (skipped m) s (λ t e. dones t (ℕ_discrete t m.figures.resumed) e) in
    record {
      counter = w.counter;
      issued = w.issued;
      behind = omega (arith, w.behind);
      passed = λ t i j. passes t (ℕ_discrete t m.figures.resumed) (λ k. passed-kept o t (w.passed t i k)) j;
      cells = λ t. shown t (ℕ_discrete t m.figures.resumed);
      at = λ p. where-kept o (s.lines p) (phase_of m p) (s.requests p) (w.at p);
      parks = w.parks;
    }
  where
    there : is_cancelled_cell (s.cells m.figures.resumed) ≡ true
    there =
        subst (λ (a : Place). is_cell_of a (s.cells m.figures.resumed) ≡ true) c
        (w.cells m.figures.resumed (ap is_done c))

    is-done : places (skipped m) m.figures.resumed ≡ place.Done
    is-done = ap (λ (a : PlaceSlot). a.place) (write_same m.cells m.figures.resumed _)

    dones : (t : ℕ) → Dec (t ≡ m.figures.resumed) → places m t ≡ place.Done → places (skipped m) t ≡ place.Done
    dones t (yes z) e = ap (places (skipped m)) z ∙ is-done
    dones t (no z) e = ap (λ (a : PlaceSlot). a.place) (write-other m.cells m.figures.resumed _ t z) ∙ e

    passes : (t : ℕ) → Dec (t ≡ m.figures.resumed) → (t < m.figures.resumed → Passed (skipped m) s t)
        → t < m.figures.resumed + 1 → Passed (skipped m) s t
    passes t (yes z) f j = subst (Passed (skipped m) s) (sym z) (record { done = is-done; cancelled = there })
    passes t (no z) f j = f (omega arith)

    shown : (t : ℕ) → Dec (t ≡ m.figures.resumed) → is_done (places (skipped m) t) ≡ false
        → is_cell_of (places (skipped m) t) (s.cells t) ≡ true
    shown t (yes z) d = never (sym (ap is_done (ap (places (skipped m)) z ∙ is-done)) ∙ d)
    shown t (no z) d =
        let e = ap (λ (a : PlaceSlot). a.place) (write-other m.cells m.figures.resumed _ t z) in
        subst (λ (a : Place). is_cell_of a (s.cells t) ≡ true) (sym e) (w.cells t (sym (ap is_done e) ∙ d))

pub skip-follows : (n : ℕ) (m : Queue) (s : Listing) → Follows m s → Follows (skip n m) s
unfolding skip
skip-follows zero m s w = w
skip-follows (suc n) m s w =
    go (can_skip m) refl (λ c. skip-follows n (skipped m) s (skipped-follows m s w (is-cancelled _ c)))
  where
    go : (b : Bool) → can_skip m ≡ b → (can_skip m ≡ true → Follows (skip n (skipped m)) s)
        → Follows (cond b (skip n (skipped m)) m) s
    go true e f = f e
    go false e f = w

-- Radios do not matter.
pub pool-follows : (m : Queue) (s : Listing) (q : Pool) → Follows m s → Follows (with_pool q m) s
pool-follows m s q w =
    let o = stays m (with_pool q m) s (λ t e. e) in
    record {
      counter = w.counter;
      issued = w.issued;
      behind = w.behind;
      passed = λ t i j. passed-kept o t (w.passed t i j);
      cells = w.cells;
      at = λ p. where-kept o (s.lines p) (phase_of m p) (s.requests p) (w.at p);
      parks = w.parks;
    }
