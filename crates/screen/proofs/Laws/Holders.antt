-- Who holds, told by the list of marks.
use Prim.Native.Nat.{ℕ, zero, suc, ◌+◌, ◌≤◌, ◌<◌}
use mathlib.Core.Path.{◌≡◌, refl, sym, ap, ◌∙◌}
use mathlib.Core.Bool.{Bool, true, false}
use mathlib.Core.List.{List, [], ◌∷◌}
use native.Mathlib.Numerals.{add-one}
use native.Mathlib.Omega.{arith}
use borrow.Author.Tests.{lt-ltb, ne_eqb}
use lib.Dec.{ltb}
use lib.ListN.{length, get_or, drop}
use lib.Seq.{drop-cons}
use Rattle.hub.specs.Basics.{all_pass, among, bit, weight}
use Rattle.hub.specs.Radios.{differ}
use Rattle.screen.specs.Line.{holders_from}
use Rattle.screen.proofs.Laws.Lists.{among_cases, among-here, differ-cons, never, not_so}

-- Nobody before p is among the holders from p on.
pub from : (bs : List Bool) (p q : ℕ) → among (holders_from p bs) q ≡ true → p ≤ q
unfolding holders_from
from [] p q e = absurd (never (sym e))
from (true ∷ bs) p q e =
    among_cases (holders_from (suc p) bs) q p e (λ i. omega arith) (λ i. omega (arith, from bs (suc p) q i))
from (false ∷ bs) p q e = omega (arith, from bs (suc p) q e)

-- Whoever holds is among them, and nobody else.
pub held_at : (bs : List Bool) (p i : ℕ) → among (holders_from p bs) (p + i) ≡ get_or bs i false
unfolding holders_from
held_at [] p i = refl
held_at (true ∷ bs) p zero = among-here (holders_from (suc p) bs) (p + 0) p (omega arith)
held_at (false ∷ bs) p zero = not_so _ (λ e. let z = from bs (suc p) (p + 0) e in omega arith)
held_at (true ∷ bs) p (suc i) =
    let e : p + suc i ≡ suc p + i = omega arith in
    let n : (p + suc i ≡ p → ⊥) = λ z. omega arith in
    rw (ne_eqb (p + suc i) p n) (ap (among (holders_from (suc p) bs)) e ∙ held_at bs (suc p) i)
held_at (false ∷ bs) p (suc i) =
    let e : p + suc i ≡ suc p + i = omega arith in
    ap (among (holders_from (suc p) bs)) e ∙ held_at bs (suc p) i

pub holds-there : (bs : List Bool) (i : ℕ) → among (holders_from 0 bs) i ≡ get_or bs i false
holds-there bs i =
    let e : i ≡ 0 + i = omega arith in
    ap (among (holders_from 0 bs)) e ∙ held_at bs 0 i

pub holders-differ : (bs : List Bool) (p : ℕ) → differ (holders_from p bs) ≡ true
unfolding holders_from differ
holders-differ [] p = refl
holders-differ (true ∷ bs) p =
    differ-cons (holders_from (suc p) bs) p (not_so _ (λ e. let z = from bs (suc p) p e in omega arith))
    (holders-differ bs (suc p))
holders-differ (false ∷ bs) p = holders-differ bs (suc p)

-- How many hold.
pub held-weight : (bs : List Bool) (p : ℕ) → length (holders_from p bs) ≡ weight bit bs
unfolding holders_from weight
held-weight [] p = refl
held-weight (true ∷ bs) p = omega (arith, held-weight bs (suc p))
held-weight (false ∷ bs) p = omega (arith, held-weight bs (suc p))

-- The next party: it holds, or it does not.
module _ (bs : List Bool) (p : ℕ) (h : p < length bs) where
  pub next-holds : get_or bs p false ≡ true
      → holders_from p (drop p bs) ≡ p ∷ holders_from (p + 1) (drop (p + 1) bs)
  unfolding holders_from
  next-holds e = rw (add-one, drop-cons bs p false h, e)

  pub next-free : get_or bs p false ≡ false
      → holders_from p (drop p bs) ≡ holders_from (p + 1) (drop (p + 1) bs)
  unfolding holders_from
  next-free e = rw (add-one, drop-cons bs p false h, e)

-- The holders below n need not be asked whether they are.
pub below-skipped : (n i p : ℕ) (bs : List Bool) → p + i ≤ n
    → all_pass (λ q. ltb q n) (holders_from p bs) ≡ all_pass (λ q. ltb q n) (holders_from (p + i) (drop i bs))
unfolding holders_from all_pass
below-skipped n zero p bs h =
    let e : p ≡ p + 0 = omega arith in
    ap (λ (q : ℕ). all_pass (λ r. ltb r n) (holders_from q bs)) e
below-skipped n (suc i) p [] h = refl
below-skipped n (suc i) p (true ∷ bs) h =
    let e : suc p + i ≡ p + suc i = omega arith in
    rw (lt-ltb p n (omega arith))
    (below-skipped n i (suc p) bs (omega arith)
    ∙ ap (λ (q : ℕ). all_pass (λ r. ltb r n) (holders_from q (drop i bs))) e)
below-skipped n (suc i) p (false ∷ bs) h =
    let e : suc p + i ≡ p + suc i = omega arith in
    below-skipped n i (suc p) bs (omega arith)
    ∙ ap (λ (q : ℕ). all_pass (λ r. ltb r n) (holders_from q (drop i bs))) e
