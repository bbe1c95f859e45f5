-- `step` meets its contract: its two tests are those of the definition.
use mathlib.Core.Path.{sym, ap, ◌∙◌}
use Rattle.hub.specs.declared.record.PlaceSlot.{PlaceSlot}
use Rattle.hub.proofs.Laws.Bools.{if-true, if-false}
use Rattle.tidystep.specs.declared.TidyStep.{TidyStep}
use Rattle.tidystep.specs.Step.{retire_turn, skip_turn, tidy_step}
use Rattle.tidystep.proofs.Tidying.step.Goals as goal

-- A turn in which another place is stored.
abbrev with-seat : TidyStep → PlaceSlot → TidyStep
with-seat d seat = record { ticket = d.ticket; seat = seat; left = d.left }

pub returns-then-may_skip : goal.returns-then-may_skip
unfolding tidy_step
returns-then-may_skip c =
    let a = c.args in
    ap (with-seat (skip_turn a.ahead a.self)) c.with_place.ensures
    ∙ sym (if-true _ _ _ (sym c.may_skip.ensures ∙ c.if-may_skip.true))

pub returns-then-can_retire : goal.returns-then-can_retire
unfolding tidy_step
returns-then-can_retire c =
    let a = c.args in
    ap (with-seat (retire_turn a.self)) c.empty_seat.ensures
    ∙ sym (if-true _ _ _ (sym c.can_retire.ensures ∙ c.if-can_retire.true))
    ∙ sym (if-false _ _ _ (sym c.may_skip.ensures ∙ c.if-may_skip.false))

pub returns : goal.returns
unfolding tidy_step
returns c =
    sym (if-false _ _ _ (sym c.can_retire.ensures ∙ c.if-can_retire.false))
    ∙ sym (if-false _ _ _ (sym c.may_skip.ensures ∙ c.if-may_skip.false))
