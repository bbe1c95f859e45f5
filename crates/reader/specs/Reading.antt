-- An input read character by character, as it comes in pieces.
use Rattle.std.specs.Prelude.{ℕ, suc, ◌+◌, ◌*◌, cond, List, [], ◌∷◌, ◌++◌, eqb, ltb, length, take, drop, set, replicate}
use Rattle.line.specs.declared.request.Header.{Header}
use Rattle.line.specs.Requests.{LONGEST, Request, request_of, header_of}
use Rattle.reader.specs.declared.Reader.{Reader}

-- One character more than a line may have makes it too long, and no more are kept.
abbrev pub KEPT : ℕ
KEPT = suc LONGEST

-- At the start of a line, with nothing read yet.
abbrev pub at_line_start : Reader
at_line_start = record { line = replicate KEPT 0; len = 0 }

-- What is read of the line so far.
abbrev pub line_in : Reader → List ℕ
line_in r = take r.len r.line

abbrev pub pushed : Reader → ℕ → Reader
pushed r c =
    cond (ltb r.len KEPT) (record { line = set r.line r.len c; len = r.len + 1 }) r

abbrev pub emptied : Reader → Reader
emptied r = record { line = r.line; len = 0 }

-- The reader past a character.
abbrev pub next : Reader → ℕ → Reader
next r c = cond (eqb c 0x0A) (emptied r) (pushed r c)

-- The reader past a piece, and what the lines that end in the piece ask.
unfoldable pub past : Reader → List ℕ → Reader
past r [] = r
past r (c ∷ cs) = past (next r c) cs

unfoldable pub asked : Reader → List ℕ → List Request
asked r [] = []
asked r (c ∷ cs) =
    let rs = asked (next r c) cs in
    cond (eqb c 0x0A) (request_of (line_in r) ∷ rs) rs

-- Requests as bytes, two each.
abbrev pub header_bytes : Header → List ℕ
header_bytes h = h.code ∷ h.party ∷ []

unfoldable pub request_bytes : List Request → List ℕ
request_bytes [] = []
request_bytes (r ∷ rs) = header_bytes (header_of r) ++ request_bytes rs

-- Requests, in front of what the buffer holds past them.
abbrev pub requests_written : List Request → List ℕ → List ℕ
requests_written rs out = request_bytes rs ++ drop (2 * length rs) out
