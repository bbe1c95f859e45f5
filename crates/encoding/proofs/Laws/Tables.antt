-- The rule of a table, proved at each entry by one test that is computed over all of them.
use Prim.Native.Nat.{ℕ, zero, suc, ◌+◌, ◌*◌, ◌/◌, ◌%◌, ◌≤◌, ◌<◌}
use mathlib.Core.Path.{◌≡◌, refl, sym, ap, subst}
use mathlib.Core.Bool.{Bool, true, false, cond, ◌&&◌}
use mathlib.Core.List.{List, [], ◌∷◌}
use native.Mathlib.Omega.{arith}
use borrow.Author.Tests.{eqb-true, ltb-true}
use lib.Dec.{eqb}
use lib.ListN.{length, get_or}
use Rattle.hub.proofs.Laws.Bools.{first, second}
use Rattle.hub.specs.Answers.{Printed}
use Rattle.encoding.specs.Frame.{frame_of}
use Rattle.encoding.specs.Hex.{digit_of, is_digit, spelled, byte_of, char_of, text_of}
use Rattle.encoding.specs.Tables.{Pairs, Values, value_of}

-- The test passes at each entry and its place, counted from i.
abbrev pub every : (ℕ → ℕ → Bool) → ℕ → List ℕ → Bool
every f i [] = true
every f i (x ∷ l) = f i x && every f (suc i) l

from : (f : ℕ → ℕ → Bool) (l : List ℕ) (i : ℕ) → every f i l ≡ true → (k : ℕ) → k < length l
    → f (i + k) (get_or l k 0) ≡ true
from f [] i t k h = absurd (omega arith)
from f (x ∷ l) i t zero h = subst (λ (m : ℕ). f m x ≡ true) (none i) (first (f i x) (every f (suc i) l) t)
  where
    none : (n : ℕ) → n ≡ n + 0
    none n = omega arith
from f (x ∷ l) i t (suc k) h =
    subst (λ (m : ℕ). f m (get_or l k 0) ≡ true) (next i k)
    (from f l (suc i) (second (f i x) (every f (suc i) l) t) k (omega arith))
  where
    next : (m n : ℕ) → suc m + n ≡ m + suc n
    next m n = omega arith

at : (f : ℕ → ℕ → Bool) (l : List ℕ) → every f 0 l ≡ true → (k : ℕ) → k < length l
    → f k (get_or l k 0) ≡ true
at f l t k h = subst (λ (m : ℕ). f m (get_or l k 0) ≡ true) (none k) (from f l 0 t k h)
  where
    none : (n : ℕ) → 0 + n ≡ n
    none n = omega arith

-- The characters of each byte.
abbrev high_right : ℕ → ℕ → Bool
high_right b x = eqb (x % 256) (char_of (b / 16 % 16))

abbrev low_right : ℕ → ℕ → Bool
low_right b x = eqb (x / 256 % 256) (char_of (b % 16))

abbrev pub pair_right : ℕ → ℕ → Bool
pair_right b x = high_right b x && low_right b x

pub pairs-right : (l : List ℕ) → length l ≡ 256 → every pair_right 0 l ≡ true → Pairs l
pairs-right l n t =
    record {
      first = λ b h. eqb-true _ _ (first (high_right b (get_or l b 0)) (low_right b (get_or l b 0)) (right b h));
      second = λ b h. eqb-true _ _ (second (high_right b (get_or l b 0)) (low_right b (get_or l b 0)) (right b h));
    }
  where
    right : (b : ℕ) → b < 256 → pair_right b (get_or l b 0) ≡ true
    right b h = at pair_right l t b (omega arith)

-- Bytes written by the table, in front of other characters.
abbrev pub by_pairs : List ℕ → List ℕ → List ℕ → List ℕ
by_pairs t [] l = l
by_pairs t (b ∷ bs) l = get_or t b 0 % 256 ∷ get_or t b 0 / 256 % 256 ∷ by_pairs t bs l

pub line-by-pairs : (t : List ℕ) → Pairs t → (p : ℕ) (r : Printed) → p < 256 → r.code < 256
    → by_pairs t (frame_of p r) (0x0A ∷ []) ≡ text_of (frame_of p r)
line-by-pairs t s p r l m =
    one r.code m
    (one p l
    (one _ (omega arith)
    (one _ (omega arith) (one _ (omega arith) (one _ (omega arith) (one _ (omega arith) refl))))))
  where
    one : (b : ℕ) → b < 256 → {k l : List ℕ} → k ≡ l
        → get_or t b 0 % 256 ∷ get_or t b 0 / 256 % 256 ∷ k
        ≡ char_of (b / 16 % 16) ∷ char_of (b % 16) ∷ l
    one b h e = λ i. s.first b h i ∷ s.second b h i ∷ e i

-- The value of each digit.
abbrev pub value_right : ℕ → ℕ → Bool
value_right c x = eqb x (value_of c)

pub values-right : (l : List ℕ) → length l ≡ 256 → every value_right 0 l ≡ true → Values l
values-right l n t = record { at = λ c h. eqb-true _ _ (at value_right l t c (omega arith)) }

-- Two values make the byte that their characters spell, or more than any byte.
value-digit : (c : ℕ) (d : Bool) → is_digit c ≡ d → cond d (digit_of c) 256 ≡ value_of c
value-digit c d e = ap (λ (b : Bool). cond b (digit_of c) 256) (sym e)

pub value-most : (t : List ℕ) → Values t → (c : ℕ) → c < 256 → get_or t c 0 ≤ 256
value-most t s c h = go (is_digit c) refl
  where
    go : (d : Bool) → is_digit c ≡ d → get_or t c 0 ≤ 256
    go true e = omega (arith, s.at c h, value-digit c true e, ltb-true (digit_of c) 16 e)
    go false e = omega (arith, s.at c h, value-digit c false e)

module _ (a b n : ℕ) (e : n ≡ 16 * value_of a + value_of b) where
  pub no_byte : 256 ≤ n → 256 ≡ byte_of (a ∷ b ∷ [])
  no_byte l = go (is_digit a) (is_digit b) refl refl
    where
      go : (d f : Bool) → is_digit a ≡ d → is_digit b ≡ f → 256 ≡ cond (d && f) (spelled a b) 256
      go true true p q =
          absurd
          (omega (
            arith,
            e,
            value-digit a true p,
            value-digit b true q,
            ltb-true (digit_of a) 16 p,
            ltb-true (digit_of b) 16 q,
          ))
      go true false p q = refl
      go false f p q = refl

  pub a_byte : n < 256 → n ≡ byte_of (a ∷ b ∷ [])
  a_byte l = go (is_digit a) (is_digit b) refl refl
    where
      go : (d f : Bool) → is_digit a ≡ d → is_digit b ≡ f → n ≡ cond (d && f) (spelled a b) 256
      go true true p q = omega (arith, e, value-digit a true p, value-digit b true q)
      go true false p q = absurd (omega (arith, e, value-digit b false q))
      go false f p q = absurd (omega (arith, e, value-digit a false p))
