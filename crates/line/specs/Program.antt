-- The schedule program: a line of output for each line of input, and the closing line.
use Rattle.std.specs.Prelude.{ℕ, Bool, cond, List, [], ◌∷◌, ◌++◌, map, eqb, leb}
use Rattle.hub.specs.declared.record.Hub.{Hub}
use Rattle.hub.specs.declared.record.Outcome.{Outcome}
use Rattle.hub.specs.Answers.{Printed, plain, printed}
use Rattle.hub.specs.Basics.{count}
use Rattle.hub.specs.Calls.{called}
use Rattle.hub.specs.Opening.{fresh, nobody, opening}
use Rattle.hub.specs.Phases.{holds, is_waiting}
use Rattle.hub.specs.Record.{phases_of}
use Rattle.hub.specs.Schedule.{Entry}
use Rattle.encoding.specs.Form.{Form, as_text, in_form}
use Rattle.encoding.specs.Frame.{frame_of, twos_complement}
use Rattle.encoding.specs.Hex.{text_of}
use Rattle.line.specs.Requests.{Request, malformed, to_open, to_call, request_of}

-- Before an opening there is no record; one with no permits stands for that.
abbrev pub unopened : Hub
unopened = fresh nobody

abbrev pub is_open : Hub → Bool
is_open h = leb 1 h.control.opening.permits

-- What a line is answered.
pub record Reply : Type 0 where
  pub party : ℕ  -- FF for openings and for 12
  pub answer : Printed

-- What a bystander sees of a call, as it is replied.
abbrev pub reply_of : Entry → Reply
reply_of e = record { party = e.call.party; answer = e.answer }

-- A reply, and the record that it leaves.
pub record Response : Type 0 where
  pub reply : Reply
  pub hub : Hub

-- What an operation of party p came to.
abbrev pub reported : ℕ → Outcome → Response
reported p o = record { reply = record { party = p; answer = printed o.answer }; hub = o.hub }

-- A line that is refused by c, for party p.
abbrev pub turned_down : ℕ → ℕ → Hub → Response
turned_down p c h = record { reply = record { party = p; answer = plain c }; hub = h }

-- On a hub that is open: 12, then 13, then the call's own.
unfoldable pub when_open : Hub → Request → Response
when_open h malformed = turned_down 0xFF 12 h
when_open h (to_open o) = turned_down 0xFF 13 h
when_open h (to_call c) = reported c.party (called h c)

-- Before an opening: 12, then 13, then the opening's own. A refused one makes no record.
unfoldable pub before_open : Request → Response
before_open malformed = turned_down 0xFF 12 unopened
before_open (to_call c) = turned_down c.party 13 unopened
before_open (to_open o) = reported 0xFF (opening o)

unfoldable pub respond : Hub → Request → Response
respond h r = cond (is_open h) (when_open h r) (before_open r)

-- The replies to requests from a record on, and the record that they leave.
unfoldable pub replies : Hub → List Request → List Reply
replies h [] = []
replies h (r ∷ rs) = (respond h r).reply ∷ replies (respond h r).hub rs

unfoldable pub after : Hub → List Request → Hub
after h [] = h
after h (r ∷ rs) = after (respond h r).hub rs

-- Replies as they are written, in a form.
abbrev pub reply_in : Form → Reply → List ℕ
reply_in form r = in_form form (frame_of r.party r.answer)

unfoldable pub rendered : Form → List Reply → List ℕ
rendered form [] = []
rendered form (r ∷ rs) = reply_in form r ++ rendered form rs

abbrev pub replies_in : Form → Hub → List Request → List ℕ
replies_in form h rs = rendered form (replies h rs)

-- What follows the last end mark: a line left without its own counts, but nothing is no line.
abbrev pub left_over : List ℕ → List (List ℕ)
left_over [] = []
left_over (x ∷ l) = (x ∷ l) ∷ []

-- The lines of an input, of which l is what is read of the first. A line ends with 0A.
unfoldable pub lines_from : List ℕ → List ℕ → List (List ℕ)
lines_from l [] = left_over l
lines_from l (c ∷ cs) = cond (eqb c 0x0A) (l ∷ lines_from [] cs) (lines_from (l ++ (c ∷ [])) cs)

abbrev pub lines_of : List ℕ → List (List ℕ)
lines_of = lines_from []

-- The closing line, laid out as an answer is: 7E, holders, parties in phase waiting, and the
-- counter in two's complement.
abbrev pub closing : Hub → List ℕ
closing h =
    let phases = phases_of h.slots in
    text_of
    (frame_of (count holds phases)
    (record { code = 0x7E; woken = count is_waiting phases; number = twos_complement h.control.figures.counter }))

-- The whole output.
unfoldable pub output_of : List ℕ → List ℕ
output_of input =
    let rs = map request_of (lines_of input) in
    replies_in as_text unopened rs ++ closing (after unopened rs)
