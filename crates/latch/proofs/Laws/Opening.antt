-- What an opening answers, from its two tests.
use Prim.Native.Nat.{ℕ, ◌≤◌}
use mathlib.Core.Path.{◌≡◌, refl}
use mathlib.Core.Bool.{Bool, true, false}
use native.Mathlib.Omega.{arith}
use borrow.Author.Tests.{leb-true}
use lib.Dec.{leb}
use Rattle.hub.specs.Basics.{all_of, up_to32}
use Rattle.hub.specs.declared.answers.Answer.{Answer}
use Rattle.hub.specs.declared.answers.Refusal.{Refusal}
use Rattle.hub.proofs.Laws.Bools.{first, second}
use Rattle.latch.specs.declared.moves.LatchCall.{LatchCall}
use Rattle.latch.specs.Calls.{called, checked, apply}
use Rattle.latch.specs.Fits.{figures_fit, fits}
use Rattle.latch.specs.Opening.{Start, fresh, not_opened, opening, opening_if, up_to200}

-- The record with N 0 and n 0, which `opening` has for a refused opening, refuses every call by 1.
-- `open_latch` hands back none.
pub never-opened : (x : Start) (c : LatchCall)
    → called (not_opened x).latch c
    ≡ record { answer = Answer.Refused Refusal.Unfit; latch = (not_opened x).latch }
unfolding fresh fits figures_fit all_of checked apply
never-opened x c = refl

-- An opening that is accepted is within bounds, and its record is fresh.
pub record InRange (c n : ℕ) : Type 0 where
  pub parties : (1 ≤ n) × (n ≤ 32)
  pub count : (1 ≤ c) × (c ≤ 200)
  pub latch : (opening c n).latch ≡ fresh c n

pub in-range : (c n : ℕ) → (opening c n).start ≡ Start.Opened → InRange c n
unfolding opening_if
in-range c n = go (up_to32 n) (up_to200 c) refl refl
  where
    go : (a b : Bool) → up_to32 n ≡ a → up_to200 c ≡ b
        → (opening_if a b c n).start ≡ Start.Opened → InRange c n
    go false b x y e = let i : ◌≡◌ {A = ℕ} 0 1 = cc in let w : ⊥ = omega arith in absurd w
    go true false x y e = let i : ◌≡◌ {A = ℕ} 0 1 = cc in let w : ⊥ = omega arith in absurd w
    go true true x y e =
        record {
          parties =
              (leb-true 1 n (first (leb 1 n) _ x), leb-true n 32 (second (leb 1 n) _ x));
          count = (leb-true 1 c (first (leb 1 c) _ y), leb-true c 200 (second (leb 1 c) _ y));
          latch = λ i. (opening_if (x i) (y i) c n).latch;
        }
