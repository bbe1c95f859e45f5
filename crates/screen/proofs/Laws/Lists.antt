-- Lists whose elements pass a test, are different, or stand at a place.
use Prim.Native.Nat.{ℕ, zero, suc, ◌≤◌, ◌<◌}
use mathlib.Core.Path.{◌≡◌, refl, sym, ap, subst, ◌∙◌}
use mathlib.Core.Bool.{Bool, true, false, not, ◌||◌}
use mathlib.Core.List.{List, [], ◌∷◌, ◌++◌}
use native.Mathlib.Decide.{ℕ_discrete}
use native.Mathlib.Omega.{arith}
use borrow.Author.Tests.{eq-eqb, ne_eqb, eqb-true, not-true}
use lib.Dec.{eqb}
use lib.ListN.{get_or, drop}
use Rattle.hub.specs.Basics.{all_pass, among}
use Rattle.hub.specs.Radios.{differ}
use Rattle.hub.proofs.Laws.Bools.{both, first, second}

-- A test that cannot hold does not.
pub not_so : (b : Bool) → (b ≡ true → ⊥) → b ≡ false
not_so true h = absurd (h refl)
not_so false h = refl

pub never : true ≡ false → ⊥
never e = let z : ◌≡◌ {A = ℕ} 0 1 = cc in omega arith

-- An order between numbers that are known by another name.
pub lt_by : {a b c : ℕ} → a ≡ b → a < c → b < c
lt_by e h = omega arith

pub ge-by : {a b c : ℕ} → a ≡ b → c ≤ a → c ≤ b
ge-by e h = omega arith

-- Who is among the elements.
pub among-here : (l : List ℕ) (x y : ℕ) → x ≡ y → among (y ∷ l) x ≡ true
among-here l x y e = rw (eq-eqb x y e)

pub among_later : (l : List ℕ) (x y : ℕ) → among l x ≡ true → among (y ∷ l) x ≡ true
among_later l x y e = go (eqb x y)
  where
    go : (b : Bool) → b || among l x ≡ true
    go true = refl
    go false = e

pub among_cases : {C : Type 0} (l : List ℕ) (x y : ℕ) → among (y ∷ l) x ≡ true
    → (x ≡ y → C) → (among l x ≡ true → C) → C
among_cases {C} l x y e f g = go (ℕ_discrete x y)
  where
    go : Dec (x ≡ y) → C
    go (yes i) = f i
    go (no i) = g (rw (ne_eqb x y i) at e)

pub among-front : (l m : List ℕ) (x : ℕ) → among l x ≡ true → among (l ++ m) x ≡ true
among-front [] m x e = absurd (never (sym e))
among-front (y ∷ l) m x e =
    among_cases l x y e (among-here (l ++ m) x y) (λ i. among_later (l ++ m) x y (among-front l m x i))

pub among-back : (l m : List ℕ) (x : ℕ) → among m x ≡ true → among (l ++ m) x ≡ true
among-back [] m x e = e
among-back (y ∷ l) m x e = among_later (l ++ m) x y (among-back l m x e)

pub among-either : {C : Type 0} (l m : List ℕ) (x : ℕ) → among (l ++ m) x ≡ true
    → (among l x ≡ true → C) → (among m x ≡ true → C) → C
among-either [] m x e f g = g e
among-either (y ∷ l) m x e f g =
    among_cases (l ++ m) x y e (λ i. f (among-here l x y i))
    (λ i. among-either l m x i (λ j. f (among_later l x y j)) g)

-- Every element passes.
pub pass-each : (f : ℕ → Bool) (l : List ℕ) → all_pass f l ≡ true → (x : ℕ) → among l x ≡ true → f x ≡ true
unfolding all_pass
pass-each f [] e x i = absurd (never (sym i))
pass-each f (y ∷ l) e x i =
    among_cases l x y i (λ j. ap f j ∙ first (f y) _ e) (pass-each f l (second (f y) _ e) x)

pub each-passes : (f : ℕ → Bool) (l : List ℕ) → ((x : ℕ) → among l x ≡ true → f x ≡ true) → all_pass f l ≡ true
unfolding all_pass
each-passes f [] h = refl
each-passes f (y ∷ l) h =
    both (f y) _ (h y (among-here l y y refl)) (each-passes f l (λ x i. h x (among_later l x y i)))

-- All are 0.
pub zeros : (l : List ℕ) → all_pass (λ b. eqb b 0) l ≡ true → (i : ℕ) → get_or l i 0 ≡ 0
unfolding all_pass
zeros [] e i = refl
zeros (y ∷ l) e zero = eqb-true y 0 (first (eqb y 0) _ e)
zeros (y ∷ l) e (suc i) = zeros l (second (eqb y 0) _ e) i

pub all-zero : (l : List ℕ) → ((i : ℕ) → get_or l i 0 ≡ 0) → all_pass (λ b. eqb b 0) l ≡ true
unfolding all_pass
all-zero [] h = refl
all-zero (y ∷ l) h = both (eqb y 0) _ (eq-eqb y 0 (h 0)) (all-zero l (λ i. h (suc i)))

-- The elements of two lists in a row differ if those of each do, and none is in both.
pub differ-head : (l : List ℕ) (x : ℕ) → differ (x ∷ l) ≡ true → among l x ≡ false
unfolding differ
differ-head l x e = not-true _ (first (not (among l x)) _ e)

pub differ-tail : (l : List ℕ) (x : ℕ) → differ (x ∷ l) ≡ true → differ l ≡ true
unfolding differ
differ-tail l x e = second (not (among l x)) _ e

pub differ-cons : (l : List ℕ) (x : ℕ) → among l x ≡ false → differ l ≡ true → differ (x ∷ l) ≡ true
unfolding differ
differ-cons l x e d = both (not (among l x)) _ (ap not e) d

pub differ-both : (l m : List ℕ) → differ l ≡ true → differ m ≡ true
    → ((x : ℕ) → among m x ≡ true → among l x ≡ false) → differ (l ++ m) ≡ true
differ-both [] m d e h = e
differ-both (y ∷ l) m d e h =
    differ-cons (l ++ m) y
    (not_so _
    (λ i.
    among-either l m y i (λ j. never (sym j ∙ differ-head l y d))
    (λ j. never (sym (among-here l y y refl) ∙ h y j))))
    (differ-both l m (differ-tail l y d) e
    (λ x i. not_so _ (λ j. never (sym (among_later l x y j) ∙ h x i))))

pub differ-second : (l m : List ℕ) → differ (l ++ m) ≡ true → differ m ≡ true
differ-second [] m e = e
differ-second (y ∷ l) m e = differ-second l m (differ-tail (l ++ m) y e)

pub differ-apart : (l m : List ℕ) → differ (l ++ m) ≡ true → (x : ℕ) → among m x ≡ true → among l x ≡ false
differ-apart [] m e x i = refl
differ-apart (y ∷ l) m e x i =
    not_so _
    (λ j.
    among_cases l x y j
    (λ k. never (sym (among-back l m y (subst (λ (z : ℕ). among m z ≡ true) k i)) ∙ differ-head (l ++ m) y e))
    (λ k. never (sym k ∙ differ-apart l m (differ-tail (l ++ m) y e) x i)))

-- What follows an element is in the list.
pub among-drop : (l : List ℕ) (i x : ℕ) → among (drop i l) x ≡ true → among l x ≡ true
among-drop l zero x e = e
among-drop [] (suc i) x e = e
among-drop (y ∷ l) (suc i) x e = among_later l x y (among-drop l i x e)

pub differ-drop : (l : List ℕ) (i : ℕ) → differ l ≡ true → differ (drop i l) ≡ true
differ-drop l zero e = e
differ-drop [] (suc i) e = e
differ-drop (y ∷ l) (suc i) e = differ-drop l i (differ-tail l y e)
