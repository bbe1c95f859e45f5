-- What the invariant counts besides the hub's weights: hand-overs left, and waiters while the count is above 0.
use Prim.Native.Nat.{ℕ, zero, suc, ◌+◌, ◌-◌, ◌≤◌, ◌<◌}
use mathlib.Core.Path.{◌≡◌, refl, sym}
use mathlib.Core.Bool.{false, cond}
use mathlib.Core.List.{[], ◌∷◌}
use native.Mathlib.Omega.{arith}
use borrow.Author.Tests.{eq-eqb, ne_eqb}
use lib.Dec.{eqb}
use Rattle.hub.specs.declared.record.Phase.{Phase}
use Rattle.hub.specs.declared.record.Phase.TheVariants.{Acquiring, AcquiringMarked}
use Rattle.hub.specs.declared.record.Place.{Place}
use Rattle.hub.specs.Basics.{weight}
use Rattle.hub.specs.Phases.{is_one_of}
use Rattle.hub.proofs.Laws.Bools.{if-true, if-false}
use Rattle.hub.proofs.Laws.Phases.{every-phase}
use Rattle.hub.proofs.Laws.Ranges.{sum-set}
use Rattle.hub.proofs.Invariant.Weights.{one, pick, suspending, live, total, TICKETS}
use Rattle.latch.specs.declared.record.LatchFigures.{LatchFigures}
use Rattle.latch.specs.declared.record.LatchSlot.{LatchSlot}
use Rattle.latch.specs.Fits.{HUB_ONLY}
use Rattle.latch.specs.Queue.{Queue, phases, places}

-- While the count is above 0 each waiter is due a hand-over that nobody carries yet.
abbrev pub due_at : ℕ → ℕ → ℕ
due_at zero w = 0
due_at (suc c) w = w

abbrev pub due : LatchFigures → ℕ
due f = due_at f.count f.waiters

pub due-done : (c w : ℕ) → c ≡ 0 → due_at c w ≡ 0
due-done zero w e = refl
due-done (suc c) w e = let z : ⊥ = omega arith in absurd z

pub due-open : (c w : ℕ) → 1 ≤ c → due_at c w ≡ w
due-open zero w i = let z : ⊥ = omega arith in absurd z
due-open (suc c) w i = refl

-- The done mark, read off the count.
pub not_done : (c : ℕ) → eqb c 0 ≡ false → 1 ≤ c
not_done zero e = let i : ◌≡◌ {A = ℕ} 0 1 = cc in let z : ⊥ = omega arith in absurd z
not_done (suc c) e = omega arith

-- Hand-overs left, and those beyond the one that is under way.
abbrev pub left : LatchSlot → ℕ
left s = s.left

abbrev pub spare : LatchSlot → ℕ
spare s = s.left - 1

-- Who holds, or is at a radio: nobody at a latch. Who has asked.
abbrev pub holding : Phase → ℕ
holding = pick HUB_ONLY one

abbrev pub asked : Phase → ℕ
asked = pick (Acquiring ∷ AcquiringMarked ∷ []) one

pub one-wait : (f : Phase) → suspending f + live f + asked f ≤ 1
unfolding pick is_one_of
one-wait = every-phase (λ f. suspending f + live f + asked f ≤ 1) (λ t. omega arith)

-- The sums of a queue.
abbrev pub sum : (Phase → ℕ) → Queue → ℕ
sum w m = weight w (phases m)

abbrev pub slot_sum : (LatchSlot → ℕ) → Queue → ℕ
slot_sum w m = weight w m.slots

abbrev pub cell_sum : (Place → ℕ) → Queue → ℕ
cell_sum w m = total w (places m)

-- One cell is within the sum.
pub one_cell : (w : Place → ℕ) (g : ℕ → Place) (t : ℕ) → t < TICKETS → w (g t) ≤ total w g
one_cell w g t i =
    omega (
      arith,
      sum-set (λ u. w (g u)) without 0 TICKETS t (omega arith) (omega arith)
          (λ u d. sym (if-false (eqb u t) 0 (w (g u)) (ne_eqb u t d))),
      if-true (eqb t t) 0 (w (g t)) (eq-eqb t t refl),
    )
  where
    without : ℕ → ℕ
    without u = cond (eqb u t) 0 (w (g u))
