-- A window of cells: what writing a place, and lifting the oldest ticket, does to it. Nothing here
-- is about a hub.
use Prim.Native.Nat.{ℕ, ◌+◌, ◌≤◌, ◌<◌}
use mathlib.Core.Path.{◌≡◌, sym, ap, subst, ◌∙◌}
use mathlib.Core.List.{List}
use native.Mathlib.Decide.{ℕ_discrete}
use native.Mathlib.Omega.{arith}
use lib.ListN.{length}
use Rattle.hub.specs.declared.record.Place.{Place}
use Rattle.hub.specs.declared.record.PlaceSlot.{PlaceSlot}
use Rattle.hub.specs.Queue.{write}
use Rattle.hub.specs.Record.{empty_seat}
use Rattle.hub.specs.Refinement.{Window}
use Rattle.hub.specs.Ring.{PLACES, read_place, read_seat, write_seat}
use Rattle.hub.proofs.Laws.Seats.{written_same, written-other, next-round}
use Rattle.hub.proofs.Invariant.Rows.{write_same, write-other}

module _ (o : ℕ) (l : List PlaceSlot) (g : ℕ → PlaceSlot) (size : length l ≡ PLACES)
    (w : Window o l g) where
  -- A place written is its cell written.
  pub window-write : (t : ℕ) (a : PlaceSlot) → o ≤ t → t < o + PLACES
      → Window o (write_seat l t a) (write g t a)
  window-write t a i j =
      record {
        before = λ u b.
            ap (λ (c : PlaceSlot). c.place) (write-other g t a u (omega arith)) ∙ w.before u b;
        within = λ u b c. at u b c (ℕ_discrete u t);
        beyond = λ u b. write-other g t a u (omega arith) ∙ w.beyond u b;
      }
    where
      at : (u : ℕ) → o ≤ u → u < o + PLACES → Dec (u ≡ t)
          → write g t a u ≡ read_seat (write_seat l t a) u
      at u b c (yes z) =
          subst (λ (v : ℕ). write g t a v ≡ read_seat (write_seat l t a) v) (sym z)
          (write_same g t a ∙ sym (written_same l size t a))
      at u b c (no d) =
          write-other g t a u d ∙ w.within u b c
          ∙ sym (written-other l size t a o u i j b c d)

  -- The window moves up past a place that is done.
  pub window-up : read_place l o ≡ Place.Done → Window (o + 1) (write_seat l o empty_seat) g
  window-up e =
      record {
        before = λ u b. low-cell u b (ℕ_discrete u o);
        within = λ u b c. at u b c (ℕ_discrete u (o + PLACES));
        beyond = λ u b. w.beyond u (omega arith);
      }
    where
      low-cell : (u : ℕ) → u < o + 1 → Dec (u ≡ o) → (g u).place ≡ Place.Done
      low-cell u b (yes z) =
          ap (λ (c : PlaceSlot). c.place) (ap g z ∙ w.within o (omega arith) (omega arith)) ∙ e
      low-cell u b (no d) = w.before u (omega arith)

      at : (u : ℕ) → o + 1 ≤ u → u < o + 1 + PLACES → Dec (u ≡ o + PLACES)
          → g u ≡ read_seat (write_seat l o empty_seat) u
      at u b c (yes z) =
          subst (λ (v : ℕ). g v ≡ read_seat (write_seat l o empty_seat) v) (sym z)
          (w.beyond (o + PLACES) (omega arith)
          ∙ sym (next-round (write_seat l o empty_seat) o ∙ written_same l size o empty_seat))
      at u b c (no d) =
          w.within u (omega arith) (omega arith)
          ∙ sym (written-other l size o empty_seat o u (omega arith) (omega arith) (omega arith)
          (omega arith) (omega arith))
