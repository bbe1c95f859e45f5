-- What a line of the desk program asks, and what it is answered.
use Rattle.std.specs.Prelude.{ℕ, Bool, Option, Some, None, cond, leb}
use Rattle.hub.specs.declared.moves.Op.{Op}
use Rattle.hub.specs.declared.opening.Opening.{Opening}
use Rattle.hub.specs.Answers.{printed}
use Rattle.line.specs.Requests.{Request, malformed, to_open, to_call}
use Rattle.screen.specs.declared.record.Line.{Line}
use Rattle.screen.specs.declared.record.Operation.{Operation}
use Rattle.screen.specs.Moves.{line_move, line_opening}
use Rattle.screen.specs.Steps.{accepted_steps}
use Rattle.deskreply.specs.declared.DeskReply.{DeskReply}

-- What a line asks of the screen: nothing, which is refused by 12, an opening, or an operation.
pub data Asked : Type 0 where
  nothing : Asked
  an_opening : Opening → Asked
  an_operation : Operation → ℕ → Asked

-- 11 and 14 are no codes of the screen.
abbrev pub asked_by_call : Op → ℕ → Asked
asked_by_call Op.Acquire p = an_operation Operation.Acquire p
asked_by_call Op.Step p = nothing
asked_by_call Op.Cancel p = an_operation Operation.Cancel p
asked_by_call Op.Release p = an_operation Operation.Release p
asked_by_call Op.Radio p = nothing

unfoldable pub asked_by : Request → Asked
asked_by malformed = nothing
asked_by (to_open o) = an_opening o
asked_by (to_call c) = asked_by_call c.op c.party

-- Before an opening the line has no permits.
abbrev pub is_open_line : Line → Bool
is_open_line l = leb 1 l.permits

-- A code for party p, if it is for one, and the line l that is left.
abbrev pub code_reply : ℕ → Option ℕ → Line → DeskReply
code_reply c p l = record { code = c; party = p; steps = None; line = l }

unfoldable pub opening_reply : Opening → DeskReply
opening_reply o = code_reply (printed (line_opening o).answer).code None (line_opening o).line

unfoldable pub operation_reply : Line → Operation → ℕ → DeskReply
operation_reply l o p =
    cond (is_open_line l)
    (record {
      code = (printed (line_move l o p).answer).code;
      party = Some p;
      steps = accepted_steps l o p;
      line = (line_move l o p).line;
    })
    (code_reply 13 (Some p) l)

-- 12, then 13, then the opening's or the operation's own.
unfoldable pub reply_to : Line → Asked → DeskReply
reply_to l nothing = code_reply 12 None l
reply_to l (an_opening o) = cond (is_open_line l) (code_reply 13 None l) (opening_reply o)
reply_to l (an_operation o p) = operation_reply l o p
