-- Bytes written as characters, one after another.
use Prim.Native.Nat.{ℕ, suc, ◌+◌, ◌*◌, ◌/◌, ◌%◌, ◌≤◌, ◌<◌}
use mathlib.Core.Path.{◌≡◌, refl, sym, ap, ◌∙◌}
use mathlib.Core.List.{List, [], ◌∷◌, ◌++◌, append_assoc}
use native.Mathlib.Numerals.{add-one}
use native.Mathlib.Omega.{arith}
use lib.ListN.{length, get_or, take, set, length-set}
use lib.Seq.{take_all, take-suc, take-suc-set}
use Rattle.encoding.specs.Hex.{char_of, hex_of, text_of}

hex-append : (l m : List ℕ) → hex_of (l ++ m) ≡ hex_of l ++ hex_of m
hex-append [] m = refl
hex-append (b ∷ l) m =
    ap (λ (r : List ℕ). char_of (b / 16 % 16) ∷ char_of (b % 16) ∷ r) (hex-append l m)

-- The first i bytes are written.
pub record Upto (bytes out : List ℕ) (i : ℕ) : Type 0 where
  pub within : i ≤ length bytes
  pub long : length out ≡ 2 * length bytes + 1
  pub written : take (2 * i) out ≡ hex_of (take i bytes)

module _ (bytes out : List ℕ) where
  pub start : length out ≡ 2 * length bytes + 1 → Upto bytes out 0
  start e = record { within = omega arith; long = e; written = refl }

module _ (bytes out : List ℕ) (i : ℕ) (u : Upto bytes out i) where
  pub onward : (a b : ℕ) → i < length bytes → a ≡ char_of (get_or bytes i 0 / 16 % 16)
      → b ≡ char_of (get_or bytes i 0 % 16) → Upto bytes (set (set out (2 * i) a) (2 * i + 1) b) (i + 1)
  onward a b h e f =
      record {
        within = omega arith;
        long = simp length-set u.long;
        written = ap (λ (n : ℕ). take n both) (two i) ∙ pair ∙ sym more;
      }
    where
      both : List ℕ
      both = set (set out (2 * i) a) (2 * i + 1) b

      two : (n : ℕ) → 2 * (n + 1) ≡ suc (2 * n + 1)
      two n = omega arith

      pair : take (suc (2 * i + 1)) both ≡ hex_of (take i bytes) ++ (a ∷ b ∷ [])
      pair =
          take-suc-set (set out (2 * i) a) (2 * i + 1) b (simp length-set (omega (arith, u.long)))
          ∙ ap (λ (n : ℕ). take n (set out (2 * i) a) ++ (b ∷ [])) (add-one (2 * i))
          ∙ ap (λ (l : List ℕ). l ++ (b ∷ [])) (take-suc-set out (2 * i) a (omega (arith, u.long)))
          ∙ append_assoc (take (2 * i) out) (a ∷ []) (b ∷ [])
          ∙ ap (λ (l : List ℕ). l ++ (a ∷ b ∷ [])) u.written

      more : hex_of (take (i + 1) bytes) ≡ hex_of (take i bytes) ++ (a ∷ b ∷ [])
      more =
          ap (λ (n : ℕ). hex_of (take n bytes)) (add-one i)
          ∙ ap hex_of (take-suc bytes i 0 h)
          ∙ hex-append (take i bytes) (get_or bytes i 0 ∷ [])
          ∙ (λ j. hex_of (take i bytes) ++ (sym e j ∷ sym f j ∷ []))

  pub ended : length bytes ≤ i → set out (2 * length bytes) 0x0A ≡ text_of bytes
  ended h =
      sym (take_all (suc (2 * length bytes)) (set out (2 * length bytes) 0x0A) (simp length-set (omega (arith, u.long))))
      ∙ take-suc-set out (2 * length bytes) 0x0A (omega (arith, u.long))
      ∙ ap (λ (l : List ℕ). l ++ (0x0A ∷ []))
      (ap (λ (n : ℕ). take n out) (all (length bytes) i u.within h) ∙ u.written ∙ ap hex_of (take_all i bytes h))
    where
      all : (m n : ℕ) → n ≤ m → m ≤ n → 2 * m ≡ 2 * n
      all m n g h = omega arith
