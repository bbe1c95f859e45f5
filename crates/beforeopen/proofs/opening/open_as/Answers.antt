-- `open_as` meets its contract: the hub and the answer are those of what the line asks for.
use Rattle.std.proofs.Common.{ap, ◌∙◌}
use Rattle.hub.specs.declared.record.Outcome.{Outcome}
use Rattle.hub.specs.Answers.{Printed, printed}
use Rattle.encoding.specs.Form.{as_text}
use Rattle.encoding.specs.Frame.{frame_of}
use Rattle.encoding.specs.Hex.{text_of}
use Rattle.line.specs.Program.{before_open, reply_in}
use Rattle.line.specs.Requests.{Request, request_of}
use Rattle.beforeopen.proofs.Laws.Opening.{is-open, is-opened, is-refused, shut}
use Rattle.beforeopen.proofs.opening.open_as.Goals as goal

pub returns-in-Ok : goal.returns-in-Ok
unfolding before_open
returns-in-Ok c =
    let outcome = c.in-Ok.ensures.outcome in
    let e = c.read_opening.ensures in (
      is-opened (request_of c.args.line.now)
          (ap (λ (x : Outcome). x.hub) outcome ∙ ap (λ (q : Request). (before_open q).hub) e) (is-open c.read_opening.result outcome),
      c.put_line.ensures
          ∙ ap (λ (x : Printed). text_of (frame_of 0xFF x))
          (c.print_of.ensures ∙ ap (λ (x : Outcome). printed x.answer) outcome)
          ∙ ap (λ (q : Request). reply_in as_text (before_open q).reply) e,
    )

pub returns-in-Err : goal.returns-in-Err
unfolding before_open
returns-in-Err c =
    let outcome = c.in-Err.ensures.outcome in
    let e = c.read_opening.ensures in (
      is-refused (request_of c.args.line.now)
          (ap (λ (x : Outcome). x.hub) outcome ∙ ap (λ (q : Request). (before_open q).hub) e) shut,
      c.put_line-in-Err.ensures
          ∙ ap (λ (x : Printed). text_of (frame_of 0xFF x))
          (c.print_of-in-Err.ensures ∙ ap (λ (x : Outcome). printed x.answer) outcome)
          ∙ ap (λ (q : Request). reply_in as_text (before_open q).reply) e,
    )
