-- The bytes of a line, decoded one after the other: those written and those that the rest spells are all.
use Prim.Native.Nat.{ℕ, ◌+◌, ◌*◌, ◌/◌, ◌%◌, ◌≤◌, ◌<◌}
use mathlib.Core.Path.{◌≡◌, sym, ap, ◌∙◌}
use mathlib.Core.Bool.{Bool, false, ◌&&◌}
use mathlib.Core.List.{List, [], ◌∷◌, ◌++◌, append_assoc, append-nil}
use native.Mathlib.Numerals.{add-one}
use native.Mathlib.Omega.{arith}
use lib.ListN.{length, take, set, length-append, length-set, drop_of_length-le}
use lib.Seq.{take-suc-set}
use Rattle.std.specs.Prelude.{Some, None}
use Rattle.line.specs.Below.{if_below}
use Rattle.encoding.specs.Hex.{byte_of}
use Rattle.line.specs.Requests.{LONGEST, all_digits, bytes_of, spelled_by}
use Rattle.line.proofs.Laws.Lines.{digits, stray, none, pair-spells, pair-strays}
use Rattle.line.proofs.Laws.Lines.{no_digit, readable}

-- The first i bytes are written, and the rest of the line is not read; it decides whether all of the line is digits.
pub record Decoding (line bytes rest : List ℕ) (i : ℕ) : Type 0 where
  pub room : length bytes ≡ 80
  pub twice : 2 * i + length rest ≡ length line
  pub digits : all_digits rest ≡ all_digits line
  pub written : take i bytes ++ bytes_of rest ≡ bytes_of line

pub at-start : (line bytes rest : List ℕ) (i : ℕ) → length bytes ≡ 80 → rest ≡ line → i ≡ 0 → Decoding line bytes rest i
at-start line bytes rest i e f z =
    record {
      room = e;
      twice = omega (arith, z, ap length f);
      digits = ap all_digits f;
      written = (λ j. take (z j) bytes ++ bytes_of (f j));
    }

module _ (line bytes rest : List ℕ) (i : ℕ) (d : Decoding line bytes rest i) where
  -- Behind the last byte nothing is left.
  pub decoded : length line ≤ LONGEST → (length line % 2 ≡ 1 → ⊥) → length rest < 2
      → take (length line / 2) bytes ≡ spelled_by line
  unfolding bytes_of
  decoded m e end =
      ap (λ (n : ℕ). take n bytes) half
      ∙ sym (append-nil (take i bytes))
      ∙ ap (λ (l : List ℕ). take i bytes ++ bytes_of l) (sym none_left)
      ∙ d.written
      ∙ readable line m e (sym d.digits ∙ ap all_digits none_left ∙ none)
    where
      half : length line / 2 ≡ i
      half = omega (arith, d.twice)

      none_left : rest ≡ []
      none_left = drop_of_length-le rest {i = 0} (omega (arith, d.twice))

  -- Two characters come next: they spell a byte, or the line is not all digits.
  module _ (pair later : List ℕ) (two : length pair ≡ 2) (parts : rest ≡ pair ++ later) where
    pub stopped : None ≡ if_below 256 (byte_of pair) → [] ≡ spelled_by line
    stopped n = no_digit line (sym d.digits ∙ ap all_digits parts ∙ go pair two n)
      where
        go : (l : List ℕ) → length l ≡ 2 → None ≡ if_below 256 (byte_of l) → all_digits (l ++ later) ≡ false
        go [] e n = absurd (omega arith)
        go (a ∷ []) e n = absurd (omega arith)
        go (a ∷ b ∷ []) e n = stray a b later (pair-strays a b n)
        go (a ∷ b ∷ c ∷ l) e n = absurd (omega arith)

    pub one_byte : (x : ℕ) → Some x ≡ if_below 256 (byte_of pair) → length line ≤ LONGEST
        → (k n : ℕ) → k ≡ i → n ≡ i + 1 → Decoding line (set bytes k x) later n
    unfolding bytes_of
    one_byte x s m k n a b =
        let g = go pair two s in
        record {
          room = length-set bytes k x ∙ d.room;
          twice = omega (arith, d.twice, ap length parts ∙ length-append pair later, two, b);
          digits = sym g.0 ∙ sym (ap all_digits parts) ∙ d.digits;
          written =
              (λ j. take (b j) (set bytes (a j) x) ++ bytes_of later)
              ∙ ap (λ (l : List ℕ). l ++ bytes_of later) behind
              ∙ append_assoc (take i bytes) (x ∷ []) (bytes_of later)
              ∙ ap (λ (l : List ℕ). take i bytes ++ l) (sym g.1 ∙ sym (ap bytes_of parts))
              ∙ d.written;
        }
      where
        go : (l : List ℕ) → length l ≡ 2 → Some x ≡ if_below 256 (byte_of l)
            → (all_digits (l ++ later) ≡ all_digits later) × (bytes_of (l ++ later) ≡ x ∷ bytes_of later)
        go [] e s = absurd (omega arith)
        go (a ∷ []) e s = absurd (omega arith)
        go (a ∷ b ∷ []) e s =
            let f = pair-spells a b x s in (
              digits a b later ∙ ap (λ (t : Bool). t && all_digits later) f.0,
              ap (λ (y : ℕ). y ∷ bytes_of later) (sym f.1),
            )
        go (a ∷ b ∷ c ∷ l) e s = absurd (omega arith)

        below : i < length bytes
        below = omega (arith, d.room, d.twice, ap length parts ∙ length-append pair later, two)

        behind : take (i + 1) (set bytes i x) ≡ take i bytes ++ (x ∷ [])
        behind = ap (λ (n : ℕ). take n (set bytes i x)) (add-one i) ∙ take-suc-set bytes i x below
