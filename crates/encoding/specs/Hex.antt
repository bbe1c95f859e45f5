-- Hexadecimal digits: either case of letter is read, capitals are written.
use Rattle.std.specs.Prelude.{ℕ, ◌+◌, ◌*◌, ◌-◌, ◌/◌, ◌%◌, Bool, cond, ◌&&◌, List, [], ◌∷◌, ◌++◌, leb, ltb, get_or}

-- The value of a digit; 16 for a character that is none.
unfoldable pub digit_of : ℕ → ℕ
digit_of c =
    cond (leb 0x30 c && leb c 0x39) (c - 0x30)
    (cond (leb 0x41 c && leb c 0x46) (c - 0x37) (cond (leb 0x61 c && leb c 0x66) (c - 0x57) 16))

abbrev pub is_digit : ℕ → Bool
is_digit c = ltb (digit_of c) 16

-- The byte that two digits spell.
abbrev pub spelled : ℕ → ℕ → ℕ
spelled a b = 16 * digit_of a + digit_of b

-- The byte that the first two characters spell; 256 if they do not.
abbrev pub byte_of : List ℕ → ℕ
byte_of [] = 256
byte_of (a ∷ []) = 256
byte_of (a ∷ b ∷ l) = cond (is_digit a && is_digit b) (spelled a b) 256

-- The characters of the digits.
abbrev pub DIGITS : List ℕ
DIGITS =
    0x30 ∷ 0x31 ∷ 0x32 ∷ 0x33 ∷ 0x34 ∷ 0x35 ∷ 0x36 ∷ 0x37 ∷ 0x38 ∷ 0x39
    ∷ 0x41 ∷ 0x42 ∷ 0x43 ∷ 0x44 ∷ 0x45 ∷ 0x46 ∷ []

abbrev pub char_of : ℕ → ℕ
char_of d = get_or DIGITS d 0

-- Bytes as characters, two each.
abbrev pub hex_of : List ℕ → List ℕ
hex_of [] = []
hex_of (b ∷ l) = char_of (b / 16 % 16) ∷ char_of (b % 16) ∷ hex_of l

-- A line of output: the bytes, and the line feed.
abbrev pub text_of : List ℕ → List ℕ
text_of bytes = hex_of bytes ++ (0x0A ∷ [])
