-- `plan_cancel` meets its contract: its tests, in order, are those of the definition.
use borrow.Author.Tests.{eq-eqb, ne_eqb}
use mathlib.Core.Path.{refl, sym, ap, ◌∙◌}
use lib.Dec.{eqb}
use mathlib.Core.List.{[], ◌∷◌}
use Rattle.hub.proofs.Laws.Phases.{all_but, phase-arm}
use Rattle.hub.specs.Phases.{is_one_of, is_waiting}
use Rattle.hub.specs.Ring.{PLACES}
use Rattle.plan.specs.Plan.{plan_cancel}
use borrow.Enum.Refused.{opened as opened_keys}
use Rattle.plan.proofs.plan_cancel.Goals as goal

pub returns-in_default : goal.returns-in_default
unfolding is_one_of plan_cancel
returns-in_default c =
    let s = c.args.s in
    let arm = phase-arm (all_but (2 ∷ [])) is_waiting s.slot.phase refl (opened_keys c.in_default.in_default-own.keys2) in
    c.refused.ensures ∙ (λ i. plan_cancel (arm i) (eqb s.kind 3) s)

pub returns-then-s-eq3 : goal.returns-then-s-eq3
unfolding is_one_of plan_cancel
returns-then-s-eq3 c =
    let b = c in
    let s = b.args.s in
    let waits = sym (ap is_waiting b.in-Waiting.is) in
    let third = sym (eq-eqb s.kind 3 c.if-s-eq3.true) in
    c.refused-then-s-eq3.ensures ∙ (λ i. plan_cancel (waits i) (third i) s)

pub returns : goal.returns
unfolding is_one_of plan_cancel
returns c =
    let g = c.before.before in
    let l = g.before.before.before in
    let b = l in
    let s = b.args.s in
    let waits = sym (ap is_waiting b.in-Waiting.is) in
    let other = sym (ne_eqb s.kind 3 l.if-s-eq3.false) in
    (λ i. record {
      code = 0x20;
      woken = 0xFF;
      steps = 2;
      turns = PLACES;
      figures = g.after_return.ensures i;
      slot = c.with_phase.ensures i;
      seat = c.with_place.ensures i;
    })
    ∙ (λ i. plan_cancel (waits i) (other i) s)
