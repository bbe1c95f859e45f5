-- "20 05 3 held 0 3 waiting 7 5": an answer as a line.
use Rattle.std.specs.Prelude.{ℕ, ◌+◌, ◌/◌, ◌%◌, cond, Option, Some, None, List, [], ◌∷◌, ◌++◌, eqb, ltb, length, take, drop}
use Rattle.std.specs.Option.{unwrap_or}
use Rattle.encoding.specs.Hex.{hex_of}
use Rattle.screen.specs.declared.record.Line.{Line}
use Rattle.screen.specs.Line.{holders, waiters}
use Rattle.deskreply.specs.declared.DeskReply.{DeskReply}

abbrev pub SPACE : ℕ
SPACE = 0x20

-- A byte in base ten.
abbrev pub decimal_char : ℕ → ℕ
decimal_char d = 0x30 + d % 10

unfoldable pub decimal : ℕ → List ℕ
decimal n =
    cond (ltb n 10) (decimal_char n ∷ [])
    (cond (ltb n 100) (decimal_char (n / 10) ∷ decimal_char n ∷ [])
    (decimal_char (n / 100) ∷ decimal_char (n / 10) ∷ decimal_char n ∷ []))

-- Parties, each behind a space.
unfoldable pub numbers : List ℕ → List ℕ
numbers [] = []
numbers (p ∷ ps) = SPACE ∷ (decimal p ++ numbers ps)

-- The steps to rest; a dash for openings and refusals.
unfoldable pub steps_text : Option ℕ → List ℕ
steps_text (Some steps) = decimal steps
steps_text None = 0x2D ∷ []

-- The steps that are told of an answer: none unless its code is 20.
abbrev pub steps_told : ℕ → Option ℕ → Option ℕ
steps_told code steps = cond (eqb code 0x20) steps None

-- "held", "waiting".
abbrev pub HELD : List ℕ
HELD = 0x68 ∷ 0x65 ∷ 0x6C ∷ 0x64 ∷ []

abbrev pub WAITING : List ℕ
WAITING = 0x77 ∷ 0x61 ∷ 0x69 ∷ 0x74 ∷ 0x69 ∷ 0x6E ∷ 0x67 ∷ []

-- The code, the party, FF if there is none, and the steps; then who holds and who waits.
unfoldable pub head_text : ℕ → Option ℕ → Option ℕ → List ℕ
head_text code party steps =
    hex_of (code ∷ []) ++ SPACE ∷ (hex_of (unwrap_or party 0xFF ∷ []) ++ SPACE ∷ steps_text (steps_told code steps))

unfoldable pub parties_text : Line → List ℕ
parties_text l =
    SPACE ∷ (HELD ++ (numbers (holders l) ++ SPACE ∷ (WAITING ++ (numbers (waiters l) ++ 0x0A ∷ []))))

unfoldable pub line_text : DeskReply → List ℕ
line_text r = head_text r.code r.party r.steps ++ parties_text r.line

-- No line is longer.
abbrev pub LONGEST_TEXT : ℕ
LONGEST_TEXT = 279

-- A text at a place of a buffer; the rest of the buffer is as it was.
unfoldable pub put_at : ℕ → List ℕ → List ℕ → List ℕ
put_at at t out = take at out ++ (t ++ drop (at + length t) out)
