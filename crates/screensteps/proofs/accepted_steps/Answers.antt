-- `accepted_steps` meets its contract: 0 steps are told of a refusal alone.
use Rattle.std.proofs.Common.{Some, sym, ap, ◌∙◌}
use Rattle.screen.proofs.Laws.Steps.{told-by-some, told_by_0}
use Rattle.screensteps.proofs.accepted_steps.Goals as goal

pub returns-then-steps-eq0 : goal.returns-then-steps-eq0
returns-then-steps-eq0 c =
    sym (told_by_0 _ _ _ (sym c.steps_to_rest-steps.ensures ∙ c.if-steps-eq0.true))

pub returns-else-steps-eq0 : goal.returns-else-steps-eq0
returns-else-steps-eq0 c =
    ap Some c.steps_to_rest-steps.ensures
    ∙ sym (told-by-some _ _ _ (λ e. c.if-steps-eq0.false (c.steps_to_rest-steps.ensures ∙ e)))
