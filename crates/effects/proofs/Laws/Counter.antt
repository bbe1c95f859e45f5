-- The counter: its sign, and one more or one less of it.
use Prim.Native.Nat.{zero, suc}
use mathlib.Core.Path.{◌≡◌, refl, sym, ap, subst, ◌∙◌}
use mathlib.Core.Bool.{Bool}
use native.Mathlib.Omega.{arith}
use borrow.Author.Tests.{leb-true, ltb-true, lt-ltb, le-ltb}
use lib.IntN.{ℤ, pos, negsuc, suc_ℤ, pred_ℤ, ◌+ℤ◌, ◌-ℤ◌, +ℤ_one, -ℤ_one}
use lib.Signed.{lt_z}
use mir.Syntax.{w32}
use mir.Val.{SFits, to_z, of_z}
use mir.Facts.{to_z-of_z}
use Rattle.hub.specs.Fits.{counter_fits}
use Rattle.hub.specs.Table.{above_zero, below_zero}
use Rattle.effects.specs.Small.{CounterFits}

pub above : (z : ℤ) → lt_z (pos 0) z ≡ above_zero z
above (pos zero) = refl
above (pos (suc n)) = lt-ltb 0 (suc n) (omega arith)
above (negsuc n) = refl

pub below : (z : ℤ) → lt_z z (pos 0) ≡ below_zero z
below (pos n) = le-ltb n 0 (omega arith)
below (negsuc n) = refl

fits : (z : ℤ) → CounterFits z → SFits w32 z
unfolding counter_fits
fits (pos n) e = record { sfits = omega (arith, leb-true n 32 e) }
fits (negsuc n) e = record { sfits = omega (arith, ltb-true n 32 e) }

-- A test of the counter as the code reads it is a test of the counter.
pub sign : (test : ℤ → Bool) (z : ℤ) {r : Bool}
    → CounterFits z → r ≡ test (to_z w32 (of_z w32 z)) → test z ≡ r
sign test z e h = sym (h ∙ ap test (to_z-of_z (fits z e)))

pred_fits : (z : ℤ) → CounterFits z → SFits w32 (pred_ℤ z)
unfolding counter_fits
pred_fits (pos zero) e = record { sfits = omega arith }
pred_fits (pos (suc n)) e = record { sfits = omega (arith, leb-true (suc n) 32 e) }
pred_fits (negsuc n) e = record { sfits = omega (arith, ltb-true n 32 e) }

suc-fits : (z : ℤ) → CounterFits z → SFits w32 (suc_ℤ z)
unfolding counter_fits
suc-fits (pos n) e = record { sfits = omega (arith, leb-true n 32 e) }
suc-fits (negsuc zero) e = record { sfits = omega arith }
suc-fits (negsuc (suc n)) e = record { sfits = omega (arith, ltb-true (suc n) 32 e) }

-- What op, by which 1 leads to the next counter, makes of the counter as the code reads it.
module _ (op : ℤ → ℤ → ℤ) (next : ℤ → ℤ) (by_one : (z : ℤ) → op z (pos 1) ≡ next z)
    (next_fits : (z : ℤ) → CounterFits z → SFits w32 (next z)) where
  is-next : (z : ℤ) → CounterFits z → op (to_z w32 (of_z w32 z)) (pos 1) ≡ next z
  is-next z e = ap (λ y. op y (pos 1)) (to_z-of_z (fits z e)) ∙ by_one z

  stays : (z : ℤ) → CounterFits z → SFits w32 (op (to_z w32 (of_z w32 z)) (pos 1))
  stays z e = subst (SFits w32) (sym (is-next z e)) (next_fits z e)

  read : (z : ℤ) → CounterFits z → to_z w32 (of_z w32 (op (to_z w32 (of_z w32 z)) (pos 1))) ≡ next z
  read z e = to_z-of_z (stays z e) ∙ is-next z e

pub less-fits : (z : ℤ) → CounterFits z → SFits w32 (to_z w32 (of_z w32 z) -ℤ pos 1)
less-fits = stays ◌-ℤ◌ pred_ℤ -ℤ_one pred_fits

pub less : (z : ℤ) → CounterFits z → to_z w32 (of_z w32 (to_z w32 (of_z w32 z) -ℤ pos 1)) ≡ pred_ℤ z
less = read ◌-ℤ◌ pred_ℤ -ℤ_one pred_fits

pub more-fits : (z : ℤ) → CounterFits z → SFits w32 (to_z w32 (of_z w32 z) +ℤ pos 1)
more-fits = stays ◌+ℤ◌ suc_ℤ +ℤ_one suc-fits

pub more : (z : ℤ) → CounterFits z → to_z w32 (of_z w32 (to_z w32 (of_z w32 z) +ℤ pos 1)) ≡ suc_ℤ z
more = read ◌+ℤ◌ suc_ℤ +ℤ_one suc-fits
