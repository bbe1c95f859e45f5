-- `radio` meets its contract: it stores the record that the function over the fields answers.
use mathlib.Core.Path.{ap}
use Rattle.hub.specs.declared.record.Outcome.{Outcome}
use Rattle.hub.specs.Answers.{printed}
use Rattle.board.proofs.radio.Goals as goal

pub returns : goal.returns
returns c =
    let e = c.call_fields-o.ensures in
    (ap (λ (o : Outcome). o.answer) e, ap (λ (o : Outcome). printed o.answer) e, ap (λ (o : Outcome). o.hub) e)
