-- A run over an input that comes in pieces, and what makes the pieces one.
use Rattle.std.specs.Prelude.{ℕ, ◌≤◌, ◌≡◌, cond, List, [], ◌∷◌, ◌++◌, eqb, length}
use Rattle.encoding.specs.Form.{as_text}
use Rattle.line.specs.Program.{unopened, replies_in, after, closing, output_of}
use Rattle.line.specs.Requests.{Request, request_of}
use Rattle.reader.specs.declared.Reader.{Reader}
use Rattle.frame.specs.declared.session.Session.{Session}
use Rattle.beforeopen.specs.Opening.{SessionHub}
use Rattle.reader.specs.Reading.{KEPT, at_line_start, line_in, past, asked}

-- Before the first piece.
abbrev pub at_start : Session
at_start = record { hub = unopened; reader = at_line_start }

-- Past a piece, and what is printed for it.
unfoldable pub fed : Session → List ℕ → Session
fed s piece =
    record { hub = after s.hub (asked s.reader piece); reader = past s.reader piece }

unfoldable pub told : Session → List ℕ → List ℕ
told s piece = replies_in as_text s.hub (asked s.reader piece)

-- At the end of the input a line left without its end mark counts.
abbrev pub rest : Reader → List Request
rest r = cond (eqb r.len 0) [] (request_of (line_in r) ∷ [])

-- What is printed then: the answer to that line, and the closing line.
unfoldable pub finished : Session → List ℕ
finished s =
    replies_in as_text s.hub (rest s.reader) ++ closing (after s.hub (rest s.reader))

-- All that is printed for some pieces, and the input that they make.
unfoldable pub told_all : Session → List (List ℕ) → List ℕ
told_all s [] = finished s
told_all s (p ∷ ps) = told s p ++ told_all (fed s p) ps

unfoldable pub joined : List (List ℕ) → List ℕ
joined [] = []
joined (p ∷ ps) = p ++ joined ps

-- However an input is cut, the output is that of the whole.
unfoldable pub InPieces : Type 0
InPieces = (pieces : List (List ℕ)) → told_all at_start pieces ≡ output_of (joined pieces)

-- What `feed` and `finish` ask of a session, and what every input leads to: a record that needs no
-- check, and at most as many characters as the buffer has.
pub record Sound (s : Session) : Type 0 where
  pub hub : SessionHub s.hub
  pub size : length s.reader.line ≡ KEPT
  pub short : s.reader.len ≤ KEPT
