-- What `if !f(..)` tells of the test that f makes, and clauses that are tested one by one.
use Prim.Native.Nat.{ℕ}
use mathlib.Core.Path.{◌≡◌, refl, sym, ◌∙◌}
use mathlib.Core.Bool.{Bool, true, false, not, and-true}
use mathlib.Core.List.{List, [], ◌∷◌}
use borrow.Author.Tests.{not-true, not-false}
use lib.ListN.{get_or}
use Rattle.hub.specs.Basics.{all_of}
use Rattle.hub.proofs.Laws.Bools.{clause}

pub failed : {r b : Bool} → r ≡ b → not r ≡ true → b ≡ false
failed e n = sym e ∙ not-true _ n

pub passed : {r b : Bool} → r ≡ b → not r ≡ false → b ≡ true
passed e n = sym e ∙ not-false _ n

-- Where one clause fails, so do all; where one is passed, the rest decides; the last alone decides.
pub fails : (i : ℕ) (l : List Bool) → get_or l i true ≡ false → false ≡ all_of l
fails i l e = go (all_of l) refl
  where
    go : (b : Bool) → all_of l ≡ b → false ≡ b
    go false z = refl
    go true z = sym e ∙ clause i l z

pub next : {b r : Bool} (l : List Bool) → b ≡ true → r ≡ all_of l → r ≡ all_of (b ∷ l)
unfolding all_of
next l e f = rw e f

pub last : {b : Bool} → b ≡ all_of (b ∷ [])
unfolding all_of
last = sym (and-true _)
