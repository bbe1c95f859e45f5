-- `plan_release` meets its contract: its tests, in order, are those of the definition.
use borrow.Author.Tests.{not-true, not-false}
use mathlib.Core.Path.{refl, sym, ap, ◌∙◌}
use mathlib.Core.List.{[], ◌∷◌}
use Rattle.hub.proofs.Laws.Phases.{all_but, phase-arm}
use Rattle.hub.specs.declared.record.Figures.{Figures}
use Rattle.hub.specs.declared.record.Phase.{Phase}
use Rattle.hub.specs.Phases.{is_holding, is_one_of}
use Rattle.hub.specs.Ring.{PLACES}
use Rattle.hub.specs.Table.{below_zero}
use Rattle.effects.proofs.Laws.Counter.{sign}
use Rattle.plan.specs.Plan.{plan_release, short}
use borrow.Enum.Refused.{opened as opened_keys}
use Rattle.plan.proofs.plan_release.Goals as goal

pub returns-in_default : goal.returns-in_default
unfolding is_one_of plan_release
returns-in_default c =
    let s = c.args.s in
    let arm = phase-arm (all_but (1 ∷ [])) is_holding s.slot.phase refl (opened_keys c.in_default.in_default-own.keys2) in
    c.refused.ensures ∙ (λ i. plan_release (arm i) (below_zero s.figures.counter) s)

pub returns-then-not-below_zero : goal.returns-then-not-below_zero
unfolding is_one_of plan_release
returns-then-not-below_zero c =
    let z = c.before.before.before in
    let b = z in
    let s = b.args.s in
    let holds = sym (ap is_holding b.in-Holding.is) in
    let fits = b.requires.0 in
    let nobody = sym (sign below_zero _ fits z.below_zero.ensures ∙ not-true _ c.if-not-below_zero.true-raw) in
    c.short.ensures
    ∙ ap (λ (f : Figures). short f Phase.Free s) c.after_return.ensures
    ∙ (λ i. plan_release (holds i) (nobody i) s)

pub returns : goal.returns
unfolding is_one_of plan_release
returns c =
    let g = c.before.before in
    let q = g.before in
    let z = q.before.before.before in
    let b = z in
    let s = b.args.s in
    let holds = sym (ap is_holding b.in-Holding.is) in
    let fits = b.requires.0 in
    let waited = sym (sign below_zero _ fits z.below_zero.ensures ∙ not-false _ q.if-not-below_zero.false-raw) in
    (λ i. record {
      code = 0x20;
      woken = q.waiter_at.ensures i;
      steps = 3;
      turns = PLACES;
      figures = g.after_return-2.ensures i;
      slot = c.with_phase.ensures i;
      seat = c.with_place.ensures i;
    })
    ∙ (λ i. plan_release (holds i) (waited i) s)
