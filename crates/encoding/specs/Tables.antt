-- What the tables hold by which the code reads and writes many lines.
use Rattle.std.specs.Prelude.{ℕ, ◌/◌, ◌%◌, ◌<◌, ◌≡◌, cond, List, get_or}
use Rattle.encoding.specs.Hex.{digit_of, is_digit, char_of}

-- At each byte its two characters, the first in the low half.
pub record Pairs (l : List ℕ) : Type 0 where
  pub first : (b : ℕ) → b < 256 → get_or l b 0 % 256 ≡ char_of (b / 16 % 16)
  pub second : (b : ℕ) → b < 256 → get_or l b 0 / 256 % 256 ≡ char_of (b % 16)

-- The value of a digit; 256 for a character that is none.
abbrev pub value_of : ℕ → ℕ
value_of c = cond (is_digit c) (digit_of c) 256

pub record Values (l : List ℕ) : Type 0 where
  pub at : (c : ℕ) → c < 256 → get_or l c 0 ≡ value_of c
