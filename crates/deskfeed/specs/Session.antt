-- The whole output, and a run over an input that comes in pieces.
use Rattle.std.specs.Prelude.{ℕ, ◌≤◌, ◌≡◌, List, [], ◌∷◌, ◌++◌, map, length}
use Rattle.reader.specs.Reading.{KEPT, asked, at_line_start, past}
use Rattle.frame.specs.Session.{joined, rest}
use Rattle.line.specs.Program.{lines_of}
use Rattle.line.specs.Requests.{Request, request_of}
use Rattle.hub.specs.Record.{PARTIES}
use Rattle.screen.specs.declared.record.Line.{Line}
use Rattle.screen.specs.Moves.{no_line}
use Rattle.deskfeed.specs.declared.session.Session.{Session}
use Rattle.deskreply.specs.Replies.{asked_by, reply_to}
use Rattle.deskline.specs.Text.{line_text}

-- What is printed for requests from a line on, and the line that they leave.
unfoldable pub said : Line → List Request → List ℕ
said l [] = []
said l (q ∷ qs) = let r = reply_to l (asked_by q) in line_text r ++ said r.line qs

unfoldable pub left : Line → List Request → Line
left l [] = l
left l (q ∷ qs) = left (reply_to l (asked_by q)).line qs

-- The whole output.
unfoldable pub output_of : List ℕ → List ℕ
output_of input = said no_line (map request_of (lines_of input))

-- Before the first piece.
abbrev pub at_start : Session
at_start = record { line = no_line; reader = at_line_start }

-- Past a piece, and what is printed for it; at the end a line left without its end mark counts.
unfoldable pub fed : Session → List ℕ → Session
fed s piece =
    record { line = left s.line (asked s.reader piece); reader = past s.reader piece }

unfoldable pub told : Session → List ℕ → List ℕ
told s piece = said s.line (asked s.reader piece)

unfoldable pub finished : Session → List ℕ
finished s = said s.line (rest s.reader)

-- However an input is cut, the output is that of the whole.
unfoldable pub told_all : Session → List (List ℕ) → List ℕ
told_all s [] = finished s
told_all s (p ∷ ps) = told s p ++ told_all (fed s p) ps

unfoldable pub InPieces : Type 0
InPieces = (pieces : List (List ℕ)) → told_all at_start pieces ≡ output_of (joined pieces)

-- A line that can be printed: of its arrays those that say who holds and who waits have 32 elements, and at most 32
-- wait.
pub record Printable (l : Line) : Type 0 where
  pub holding : length l.holding ≡ PARTIES
  pub queue : length l.queue ≡ PARTIES
  pub few : l.waiting ≤ PARTIES

-- What `feed` and `finish` ask of a session, and what every input leads to.
pub record Sound (s : Session) : Type 0 where
  pub line : Printable s.line
  pub size : length s.reader.line ≡ KEPT
  pub short : s.reader.len ≤ KEPT
