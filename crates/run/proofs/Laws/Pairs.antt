-- The bytes of the calls, read two by two.
use Prim.Native.Nat.{ℕ, suc, ◌+◌, ◌*◌, ◌/◌, ◌%◌, ◌<◌}
use mathlib.Core.Path.{◌≡◌, refl, sym, ap, ◌∙◌}
use mathlib.Core.Bool.{Bool, true, false, ◌&&◌}
use mathlib.Core.List.{List, [], ◌∷◌, ◌++◌}
use native.Mathlib.Omega.{arith}
use lib.ListN.{length, get_or, drop}
use lib.Seq.{drop-cons}
use Rattle.run.specs.Bytes.{well_formed}

-- The i-th pair, in front of the pairs past it.
pub pair : (l : List ℕ) (i : ℕ) → i < length l / 2
    → drop (2 * i) l ≡ get_or l (2 * i) 0 ∷ get_or l (2 * i + 1) 0 ∷ drop (2 * (i + 1)) l
pair l i h =
    drop-cons l (2 * i) 0 (omega arith)
    ∙ ap (λ (j : ℕ). get_or l (2 * i) 0 ∷ drop j l) (one (2 * i))
    ∙ ap (λ (r : List ℕ). get_or l (2 * i) 0 ∷ r)
    (drop-cons l (2 * i + 1) 0 (omega arith)
    ∙ ap (λ (j : ℕ). get_or l (2 * i + 1) 0 ∷ drop j l) (next i))
  where
    one : (m : ℕ) → suc m ≡ m + 1
    one m = omega arith

    next : (m : ℕ) → suc (2 * m + 1) ≡ 2 * (m + 1)
    next m = omega arith

module _ (is_code : ℕ → Bool) where
  -- The i-th pair, and the pairs past it.
  pub one-formed : (l : List ℕ) (i : ℕ) → i < length l / 2
      → well_formed is_code (drop (2 * i) l)
      ≡ is_code (get_or l (2 * i) 0) && well_formed is_code (drop (2 * (i + 1)) l)
  unfolding well_formed
  one-formed l i h = ap (well_formed is_code) (pair l i h)

  -- A pair in front of the others: its code says whether they decide.
  pub good : (front rest l : List ℕ) → length front ≡ 2 → l ≡ front ++ rest → is_code (get_or front 0 0) ≡ true
      → well_formed is_code rest ≡ well_formed is_code l
  unfolding well_formed
  good [] rest l n e t = absurd (omega (arith, n))
  good (c ∷ []) rest l n e t = absurd (omega (arith, n))
  good (c ∷ p ∷ []) rest l n e t = sym (ap (well_formed is_code) e ∙ rw t)
  good (c ∷ p ∷ q ∷ f) rest l n e t = absurd (omega (arith, n))

  pub bad : (front rest l : List ℕ) → length front ≡ 2 → l ≡ front ++ rest → is_code (get_or front 0 0) ≡ false
      → false ≡ well_formed is_code l
  unfolding well_formed
  bad [] rest l n e t = absurd (omega (arith, n))
  bad (c ∷ []) rest l n e t = absurd (omega (arith, n))
  bad (c ∷ p ∷ []) rest l n e t = sym (ap (well_formed is_code) e ∙ rw t)
  bad (c ∷ p ∷ q ∷ f) rest l n e t = absurd (omega (arith, n))

  -- A byte too many.
  pub odd : (l : List ℕ) → length l % 2 ≡ 1 → false ≡ well_formed is_code l
  unfolding well_formed
  odd [] h = absurd (omega (arith, h))
  odd (c ∷ []) h = refl
  odd (c ∷ p ∷ l) h = odd_past (is_code c) (odd l (omega (arith, h)))
    where
      odd_past : (b : Bool) {r : Bool} → false ≡ r → false ≡ b && r
      odd_past true e = e
      odd_past false e = refl

  -- What is left when no pair is, of an even number of bytes: nothing.
  pub ended : (l : List ℕ) → length l < 2 → length l % 2 ≡ 0 → true ≡ well_formed is_code l
  unfolding well_formed
  ended [] n h = refl
  ended (c ∷ []) n h = absurd (omega (arith, h))
  ended (c ∷ p ∷ l) n h = absurd (omega (arith, n))
