-- What a line asks. Refusal 12: odd digits, a non-hexadecimal letter, no or unknown code, wrong
-- length for the code, or over 160 characters.
use Rattle.std.specs.Prelude.{ℕ, ◌+◌, ◌%◌, Bool, true, false, cond, not, ◌&&◌, ◌||◌, List, [], ◌∷◌, eqb, leb, ltb, drop, length, take, Option, Some, None}
use Rattle.hub.specs.declared.moves.Call.{Call}
use Rattle.line.specs.declared.request.Header.{Header}
use Rattle.hub.specs.declared.opening.Opening.{Opening}
use Rattle.hub.specs.Opening.{sized, with_kinds, with_radios}
use Rattle.encoding.specs.Frame.{is_call, op_of, code_of}
use Rattle.encoding.specs.Hex.{is_digit, spelled}

-- How many characters a line may have.
abbrev pub LONGEST : ℕ
LONGEST = 160

-- What a line asks: nothing, which is refused by 12, an opening, or a call.
pub data Request : Type 0 where
  malformed : Request
  to_open : Opening → Request
  to_call : Call → Request

unfoldable pub all_digits : List ℕ → Bool
all_digits [] = true
all_digits (c ∷ l) = is_digit c && all_digits l

-- Too many characters, odd, or with a character that is no digit.
abbrev pub unreadable : List ℕ → Bool
unreadable l = ltb LONGEST (length l) || eqb (length l % 2) 1 || not (all_digits l)

unfoldable pub bytes_of : List ℕ → List ℕ
bytes_of [] = []
bytes_of (a ∷ []) = []
bytes_of (a ∷ b ∷ l) = spelled a b ∷ bytes_of l

-- An opening that is given kinds: the bytes that follow its others. Given none, it has the built-in table.
unfoldable pub given_kinds : List ℕ → Opening → Opening
given_kinds [] o = o
given_kinds (k ∷ ks) o = with_kinds (k ∷ ks) o

-- An opening is its code, K, n, and K radios if it is 02; any more bytes are kinds, fewer are malformed. K is
-- what the line says, legal or not.
unfoldable pub opening_in : ℕ → ℕ → ℕ → List ℕ → Request
opening_in c k n l =
    cond (eqb c 0x01) (to_open (given_kinds l (sized k n)))
    (cond (eqb c 0x02 && leb k (length l)) (to_open (given_kinds (drop k l) (with_radios k n (take k l)))) malformed)

-- A call is two bytes, and what is longer may be an opening; no code, another code or another
-- length is malformed.
unfoldable pub requested : List ℕ → Request
requested [] = malformed
requested (c ∷ []) = malformed
requested (c ∷ p ∷ []) = cond (is_call c) (to_call (record { op = op_of c; party = p })) malformed
requested (c ∷ k ∷ n ∷ l) = opening_in c k n l

-- The bytes of a line; none if it is unreadable, and then it asks nothing.
unfoldable pub spelled_by : List ℕ → List ℕ
spelled_by l = cond (unreadable l) [] (bytes_of l)

unfoldable pub request_of : List ℕ → Request
request_of l = requested (spelled_by l)

-- How many bytes an opening of code c with K has without kinds; 0 if the code is none of an opening.
abbrev pub frame_size : ℕ → ℕ → ℕ
frame_size c k = cond (eqb c 0x01) 3 (cond (eqb c 0x02) (3 + k) 0)

-- How many radios an opening of code c with K gives, if the code is one of an opening.
abbrev pub radios_given : ℕ → ℕ → Option ℕ
radios_given c k = cond (eqb c 0x01) (Some 0) (cond (eqb c 0x02) (Some k) None)

-- What a request asks for, if it is an opening.
abbrev pub opening_asked : Request → Option Opening
opening_asked malformed = None
opening_asked (to_open o) = Some o
opening_asked (to_call c) = None

-- A request in two bytes: a call whole; of an opening only that it is one.
abbrev pub header_of : Request → Header
header_of malformed = record { code = 0x00; party = 0xFF }
header_of (to_open o) = record { code = 0x01; party = 0xFF }
header_of (to_call c) = record { code = code_of c.op; party = c.party }

-- The header of four characters, by the bytes that the first two and the last two spell.
abbrev pub call_header : Option ℕ → Option ℕ → Header
call_header None q = header_of malformed
call_header (Some c) None = header_of malformed
call_header (Some c) (Some p) = cond (is_call c) (record { code = c; party = p }) (header_of malformed)

abbrev pub is_opening : Request → Bool
is_opening malformed = false
is_opening (to_open o) = true
is_opening (to_call c) = false
