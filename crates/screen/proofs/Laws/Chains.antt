-- What the chains of the check and of the moves compute, over the line's lists.
use Prim.Native.Nat.{ℕ, suc, ◌+◌, ◌≤◌, ◌<◌}
use mathlib.Core.Path.{◌≡◌, refl, sym, ap, ap₂, ◌∙◌}
use mathlib.Core.Bool.{Bool, true, false, not, cond, ◌&&◌, ◌||◌}
use mathlib.Core.List.{List, [], ◌∷◌}
use native.Mathlib.Decide.{ℕ_discrete, dec_le}
use native.Mathlib.Omega.{arith}
use borrow.Author.Tests.{eq-eqb, le-ltb, lt-ltb, ne_eqb}
use lib.Dec.{eqb, ltb}
use lib.ListN.{length, drop}
use Rattle.std.proofs.Common.{Some, None}
use Rattle.std.specs.List.{count_by, filter, list_all, list_any, position, position_or_len}
use Rattle.std.proofs.lemmas.List.Sums.{length-filter}
use Rattle.hub.specs.Basics.{all_pass, among}
use Rattle.screen.specs.Line.{holders_from, place_of}
use Rattle.screen.proofs.Laws.Holders.{below-skipped}
use Rattle.screen.proofs.Laws.Lists.{never}
use Rattle.screen.proofs.Laws.Places.{place-among}

-- Who is among the elements, and where it stands.
equal-turned : (x y : ℕ) → eqb x y ≡ eqb y x
equal-turned x y = go (ℕ_discrete x y)
  where
    go : Dec (x ≡ y) → eqb x y ≡ eqb y x
    go (yes e) = eq-eqb x y e ∙ sym (eq-eqb y x (sym e))
    go (no e) = ne_eqb x y e ∙ sym (ne_eqb y x (λ f. e (sym f)))

contains : (w : List ℕ) (p : ℕ) → list_any (λ y. eqb y p) w ≡ among w p
contains [] p = refl
contains (y ∷ w) p = ap₂ (λ (a b : Bool). a || b) (equal-turned y p) (contains w p)

pub among-told : {w v : List ℕ} (p : ℕ) {r b : Bool} → r ≡ list_any (λ y. eqb y p) v → v ≡ w → r ≡ b → among w p ≡ b
among-told {w} {v} p e f g = sym (contains w p) ∙ ap (list_any (λ y. eqb y p)) (sym f) ∙ sym e ∙ g

counted : (w : List ℕ) (p : ℕ) → position_or_len (λ y. eqb y p) w ≡ place_of p w
unfolding place_of
counted [] p = refl
counted (y ∷ w) p = go (counted w p) (ℕ_discrete p y)
  where
    go : position_or_len (λ z. eqb z p) w ≡ place_of p w → Dec (p ≡ y) → position_or_len (λ z. eqb z p) (y ∷ w) ≡ cond (eqb p y) 0 (suc (place_of p w))
    go f (yes e) = rw (eq-eqb p y e, eq-eqb y p (sym e))
    go f (no e) = rw (ne_eqb p y e, ne_eqb y p (λ g. e (sym g))) (omega arith)

module _ (w : List ℕ) (p : ℕ) where
  abbrev n : ℕ
  n = position_or_len (λ y. eqb y p) w

  pub stands : (at : ℕ) → position (λ y. eqb y p) w ≡ Some at → (at ≡ place_of p w) × (at < length w)
  stands at e = go (dec_le (suc n) (length w))
    where
      go : Dec (n < length w) → (at ≡ place_of p w) × (at < length w)
      go (yes h) =
          let f = rw (lt-ltb n (length w) h) at e in
          let g : n ≡ at = cc in
          (omega (arith, counted w p), omega arith)
      go (no h) =
          let f = rw (le-ltb n (length w) (omega arith)) at e in
          let z : ⊥ = cc in
          absurd z

  pub stands-not : position (λ y. eqb y p) w ≡ None → among w p ≡ false
  stands-not e = go (dec_le (suc n) (length w))
    where
      go : Dec (n < length w) → among w p ≡ false
      go (yes h) =
          let f = rw (lt-ltb n (length w) h) at e in
          let z : ⊥ = cc in
          absurd z
      go (no h) = place-among w p ∙ le-ltb (place_of p w) (length w) (omega (arith, counted w p))

-- A list that has no first element is empty.
pub no-first : (w : List ℕ) → false ≡ ltb 0 (length w) → length w ≡ 0
no-first [] e = refl
no-first (x ∷ w) e = absurd (never (sym (e ∙ lt-ltb 0 (suc (length w)) (omega arith))))

-- Every element passes.
pub all-pass : (f : ℕ → Bool) (l : List ℕ) → list_all f l ≡ all_pass f l
unfolding all_pass
all-pass f [] = refl
all-pass f (x ∷ l) = ap (λ (b : Bool). f x && b) (all-pass f l)

-- How many hold.
filtered : (bs : List Bool) (p : ℕ) → length (filter (λ b. b) bs) ≡ length (holders_from p bs)
unfolding holders_from
filtered [] p = refl
filtered (true ∷ bs) p = ap suc (filtered bs (suc p))
filtered (false ∷ bs) p = filtered bs (suc p)

pub held-count : (bs : List Bool) (p : ℕ) → count_by (λ b. b) bs ≡ length (holders_from p bs)
held-count bs p = sym (length-filter (λ b. b) bs) ∙ filtered bs p

-- Nobody from n on holds: all that hold are below it.
none-from : (n p : ℕ) (bs : List Bool) → n ≤ p → list_all not bs ≡ all_pass (λ q. ltb q n) (holders_from p bs)
unfolding holders_from all_pass
none-from n p [] h = refl
none-from n p (true ∷ bs) h = rw (le-ltb p n h)
none-from n p (false ∷ bs) h = none-from n (suc p) bs (omega arith)

pub holders-low : (n : ℕ) (bs : List Bool) → list_all not (drop n bs) ≡ all_pass (λ q. ltb q n) (holders_from 0 bs)
holders-low n bs =
    none-from n (0 + n) (drop n bs) (omega arith) ∙ sym (below-skipped n n 0 bs (omega arith))
