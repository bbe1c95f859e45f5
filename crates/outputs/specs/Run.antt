-- ★ The paper's run whole, input left, output right, the closing line last.
use Rattle.std.specs.Prelude.{ℕ, zero, suc, ◌+◌, ◌/◌, ◌%◌, ◌≡◌, cond, List, [], ◌∷◌, ◌++◌, ltb}
use Rattle.line.specs.Program.{output_of}

-- The character of a digit, said once more: the run does not lean on the program's own table.
abbrev pub digit_char : ℕ → ℕ
digit_char d = cond (ltb d 10) (0x30 + d) (0x37 + d)

-- A number in so many hexadecimal digits.
unfoldable pub in_digits : ℕ → ℕ → List ℕ
in_digits zero x = []
in_digits (suc n) x = in_digits n (x / 16) ++ (digit_char (x % 16) ∷ [])

-- A line of input, of so many digits, and its answer.
pub record RunRow : Type 0 where
  pub width : ℕ
  pub asks : ℕ
  pub answers : ℕ

abbrev pub opening_row : ℕ → ℕ → RunRow
opening_row x y = record { width = 6; asks = x; answers = y }

abbrev pub call_row : ℕ → ℕ → RunRow
call_row x y = record { width = 4; asks = x; answers = y }

abbrev pub rows : List RunRow
rows =
    opening_row 0x010103 0x1FFFFFFFFFFFFF
    ∷ call_row 0x1000 0x2000FFFFFFFFFF
    ∷ call_row 0x1100 0x2100FFFFFFFFFF
    ∷ call_row 0x1001 0x2001FFFFFFFFFF
    ∷ call_row 0x1101 0x2201FFFFFFFFFF
    ∷ call_row 0x1101 0x2301FF00000000
    ∷ call_row 0x1101 0x2401FF00000000
    ∷ call_row 0x1300 0x2000FFFFFFFFFF
    ∷ call_row 0x1100 0x2700FFFFFFFFFF
    ∷ call_row 0x1201 0x2001FFFFFFFFFF
    ∷ call_row 0x1101 0x2F01FFFFFFFFFF
    ∷ call_row 0x1100 0x2800FF00000000
    ∷ call_row 0x1100 0x2B00FF00000000
    ∷ call_row 0x1101 0x3301FF00000000
    ∷ []

unfoldable pub inputs : List RunRow → List ℕ
inputs [] = []
inputs (r ∷ rs) = in_digits r.width r.asks ++ (0x0A ∷ inputs rs)

unfoldable pub outputs : List RunRow → List ℕ
outputs [] = in_digits 14 0x7E000000000001 ++ (0x0A ∷ [])
outputs (r ∷ rs) = in_digits 14 r.answers ++ (0x0A ∷ outputs rs)

unfoldable pub RunHolds : Type 0
RunHolds = output_of (inputs rows) ≡ outputs rows
