-- Lines before a hub is open: each is answered by itself.
use Rattle.std.specs.Prelude.{ℕ, suc, ◌≡◌, Bool, cond, ◌&&◌, List, [], ◌∷◌, ◌⊎◌, Option, Some, None, eqb, length, take, drop}
use Rattle.hub.specs.declared.record.Hub.{Hub}
use Rattle.hub.specs.Answers.{plain}
use Rattle.line.specs.Program.{unopened, is_open, Reply, before_open, after}
use Rattle.line.specs.Requests.{Request, request_of}
use Rattle.batch.specs.Batch.{Reachable}
use Rattle.beforeopen.specs.declared.opening.Begun.{Begun}
use Rattle.reader.specs.declared.Reader.{Reader}
use Rattle.reader.specs.Reading.{line_in, next, past, asked}

-- The record of a session: no hub is open yet, or it is reached from its opening.
abbrev pub SessionHub : Hub → Type 0
SessionHub h = (h ≡ unopened) ⊎ Reachable h

-- 12 for a malformed line, 13 for a call.
abbrev pub refusal : ℕ → ℕ → Reply
refusal c p = record { party = p; answer = plain (cond (eqb c 0x00) 12 13) }

-- Does a request open a hub?
abbrev pub opens_hub : Request → Bool
opens_hub q = is_open (before_open q).hub

-- The hub that it opens, if it opens one.
abbrev pub hub_opened : Request → Option Hub
hub_opened q = cond (opens_hub q) (Some (before_open q).hub) None

-- How many characters of a piece are read until a hub is open: those through the line that opens
-- it, or all of them.
unfoldable pub until_open : Reader → List ℕ → ℕ
until_open r [] = 0
until_open r (c ∷ cs) =
    suc (cond (eqb c 0x0A && opens_hub (request_of (line_in r))) 0 (until_open (next r c) cs))

-- None, if a hub is open already.
abbrev pub open_at : Hub → Reader → List ℕ → ℕ
open_at h r piece = cond (is_open h) 0 (until_open r piece)

-- The part of a piece before a hub is open, and the part after.
abbrev pub early : Hub → Reader → List ℕ → List ℕ
early h r piece = take (open_at h r piece) piece

abbrev pub late : Hub → Reader → List ℕ → List ℕ
late h r piece = drop (open_at h r piece) piece

-- What the first part leads to.
abbrev pub begun_by : Hub → Reader → List ℕ → Begun
begun_by h r piece =
    record {
      hub = after h (asked r (early h r piece));
      reader = past r (early h r piece);
      read = open_at h r piece;
      lines = length (asked r (early h r piece));
    }

-- What a piece asks of a hub that is open.
abbrev pub asked_open : Hub → Reader → List ℕ → List Request
asked_open h r piece = asked (past r (early h r piece)) (late h r piece)
