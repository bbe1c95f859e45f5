-- `own_steps` meets its contract: for each operation the steps of its rows.
use mathlib.Core.Path.{sym, ap, ◌∙◌}
use Rattle.screen.specs.Steps.{own_steps}
use Rattle.screen.proofs.Laws.Lists.{ge-by, lt_by}
use Rattle.screen.proofs.Laws.Steps.{at-counter, hands-over, must-wait, to-counter}
use Rattle.screensteps.proofs.own_steps.Goals as goal

pub returns-then-holder_count-line : goal.returns-then-holder_count-line
returns-then-holder_count-line c =
    c.to_counter.ensures ∙ sym (at-counter _ (lt_by c.holder_count.ensures c.if-holder_count-line.true)) ∙ ap
    (own_steps c.args.line.now) (sym c.in-Acquire.is)

pub returns-then-line-ge1 : goal.returns-then-line-ge1
returns-then-line-ge1 c = sym (hands-over _ c.if-line-ge1.true) ∙ ap (own_steps
    c.args.line.now) (sym c.in-Release.is)

pub returns-else-holder_count-line : goal.returns-else-holder_count-line
returns-else-holder_count-line c =
    sym (must-wait _ (ge-by c.holder_count.ensures c.if-holder_count-line.false)) ∙ ap (own_steps
    c.args.line.now) (sym c.in-Acquire.is)

pub returns-in-Cancel : goal.returns-in-Cancel
unfolding own_steps
returns-in-Cancel c = ap (own_steps c.args.line.now) (sym c.in-Cancel.is)

pub returns-else-line-ge1 : goal.returns-else-line-ge1
returns-else-line-ge1 c =
    c.to_counter-else-line-ge1.ensures ∙ sym (to-counter _ c.if-line-ge1.false) ∙ ap (own_steps c.args.line.now) (sym
    c.in-Release.is)
