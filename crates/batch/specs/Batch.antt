-- Requests as bytes, and the records that an open hub can be in.
use Rattle.std.specs.Prelude.{ℕ, zero, suc, ◌*◌, ◌≡◌, cond, List, [], ◌∷◌, ◌++◌, eqb, get_or, drop}
use Rattle.hub.specs.declared.answers.Answer.{Answer}
use Rattle.hub.specs.declared.moves.Call.{Call}
use Rattle.hub.specs.declared.record.Figures.{Figures}
use Rattle.hub.specs.declared.record.Hub.{Hub}
use Rattle.hub.specs.declared.record.PartySlot.{PartySlot}
use Rattle.hub.specs.declared.record.Pool.{Pool}
use Rattle.hub.specs.Opening.{nobody, opening}
use Rattle.hub.specs.Schedule.{run}
use Rattle.hub.specs.declared.opening.Opening.{Opening}
use Rattle.hub.specs.Record.{control_of, of_fields}
use Rattle.encoding.specs.Form.{Form, reply_size}
use Rattle.encoding.specs.Frame.{is_call, op_of}
use Rattle.line.specs.Program.{replies_in}
use Rattle.ring.specs.declared.PlaceRing.{PlaceRing}
use Rattle.line.specs.Requests.{Request, malformed, to_open, to_call}

-- The request that a code and a party make. An open hub refuses every opening alike, so that one
-- stands for all.
abbrev pub request_for : ℕ → ℕ → Request
request_for c p =
    cond (is_call c) (to_call (record { op = op_of c; party = p }))
    (cond (eqb c 0x01) (to_open nobody) malformed)

-- The first n requests of some bytes, two each.
unfoldable pub requests_in : ℕ → List ℕ → List Request
requests_in zero l = []
requests_in (suc n) l = request_for (get_or l 0 0) (get_or l 1 0) ∷ requests_in n (drop 2 l)

-- The replies, in front of what the buffer holds past them.
abbrev pub replied : Form → Hub → ℕ → List ℕ → List ℕ → List ℕ
replied form h n requests out =
    replies_in form h (requests_in n requests) ++ drop (reply_size form * n) out

-- The record that the loop's parts make. Its figures have the next ticket to resume, not its ring.
abbrev pub of_parts : Opening → Figures → PlaceRing → List PartySlot → Pool → Hub
of_parts opening figures ring slots pool = of_fields ring.places slots (control_of opening figures ring.oldest pool)

-- What an accepted opening and a list of calls lead to: such a record needs no check.
pub record Reachable (h : Hub) : Type 0 where
  pub from : Opening
  pub calls : List Call
  pub accepted : (opening from).answer ≡ Answer.Opened
  pub same : h ≡ run (opening from).hub calls
