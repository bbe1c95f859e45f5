-- `steps_to_rest` meets its contract: an operation that is not accepted is refused.
use mathlib.Core.Path.{sym, ap, subst, ◌∙◌}
use types.Run.{OneOf}
use denote.Enum.Declared.{tag_of}
use Rattle.hub.specs.declared.answers.Answer.{Answer}
use Rattle.hub.specs.contracts.answers.Answer as answer
use Rattle.screen.specs.declared.record.Moved.{Moved}
use Rattle.screen.proofs.Laws.Steps.{OTHERS, none-to-rest, not_taken, own-to-rest, told}
use borrow.Enum.Refused.{opened as opened_keys}
use Rattle.screensteps.proofs.steps_to_rest.Goals as goal

pub returns-in_default : goal.returns-in_default
returns-in_default c =
    let a = c.args in
    let e = ap (λ (m : Moved). m.answer) c.call.ensures.0 in
    sym (none-to-rest a.line a.operation a.party
    (not_taken (told a.line a.operation a.party)
    (subst (λ (y : Answer). OneOf OTHERS (tag_of answer.the_type y)) e (opened_keys c.in_default.in_default-own.keys2))))

pub returns-in-Accepted : goal.returns-in-Accepted
returns-in-Accepted c =
    c.own_steps.ensures
    ∙ sym (own-to-rest _ _ _ (sym (ap (λ (m : Moved). m.answer)
    c.call.ensures.0) ∙ c.in-Accepted.is))
