-- `plan_acquire` meets its contract: its tests, in order, are those of the definition.
use borrow.Author.Tests.{le-leb, lt-leb}
use mathlib.Core.Path.{refl, sym, ap, ◌∙◌}
use lib.Dec.{leb}
use mathlib.Core.List.{[], ◌∷◌}
use native.Mathlib.Omega.{arith}
use Rattle.hub.proofs.Laws.Phases.{all_but, phase-arm}
use Rattle.hub.specs.declared.record.Figures.{Figures}
use Rattle.hub.specs.declared.record.Phase.{Phase}
use Rattle.hub.specs.Phases.{is_free, is_one_of}
use Rattle.hub.specs.Record.{MAX_BEGUN}
use Rattle.hub.specs.Table.{above_zero}
use Rattle.effects.proofs.Laws.Counter.{sign}
use Rattle.plan.specs.Plan.{plan_acquire, short}
use borrow.Enum.Refused.{opened as opened_keys}
use Rattle.plan.proofs.plan_acquire.Goals as goal

pub returns-in_default : goal.returns-in_default
unfolding is_one_of plan_acquire
returns-in_default c =
    let s = c.args.s in
    let arm = phase-arm (all_but (0 ∷ [])) is_free s.slot.phase refl (opened_keys c.in_default.in_default-own.keys2) in
    let a = c.args in
    c.refused.ensures
    ∙ (λ i. plan_acquire (arm i) (leb MAX_BEGUN s.figures.begun) a.full
    (above_zero s.figures.counter) s)

pub returns-then-figures-ge-MAX_BEGUN : goal.returns-then-figures-ge-MAX_BEGUN
unfolding is_one_of plan_acquire
returns-then-figures-ge-MAX_BEGUN c =
    let b = c in
    let a = b.args in
    let s = a.s in
    let free = sym (ap is_free b.in-Free.is) in
    let all = sym (le-leb MAX_BEGUN s.figures.begun (omega arith)) in
    c.refused-then-figures-ge-MAX_BEGUN.ensures ∙ (λ i. plan_acquire (free i) (all i) a.full (above_zero s.figures.counter) s)

pub returns-then-full : goal.returns-then-full
unfolding is_one_of plan_acquire
returns-then-full c =
    let b = c in
    let s = b.args.s in
    let free = sym (ap is_free b.in-Free.is) in
    let more = sym (lt-leb MAX_BEGUN s.figures.begun (omega arith)) in
    let full = sym c.if-full.true in
    c.refused-then-full.ensures ∙ (λ i. plan_acquire (free i) (more i) (full i) (above_zero s.figures.counter) s)

pub returns-then-above_zero : goal.returns-then-above_zero
unfolding is_one_of plan_acquire
returns-then-above_zero c =
    let z = c.before.before.before in
    let l = z.before.before in
    let b = l in
    let s = b.args.s in
    let free = sym (ap is_free b.in-Free.is) in
    let more = sym (lt-leb MAX_BEGUN s.figures.begun (omega arith)) in
    let room = sym l.if-full.false in
    let fits = b.requires.0 in
    let above = sym (sign above_zero _ fits z.above_zero.ensures ∙ c.if-above_zero.true) in
    c.short.ensures
    ∙ ap (λ (f : Figures). short f Phase.Holding s) c.after_acquire.ensures
    ∙ (λ i. plan_acquire (free i) (more i) (room i) (above i) s)

pub returns : goal.returns
unfolding is_one_of plan_acquire
returns c =
    let g = c.before.before in
    let z = g.before.before.before in
    let l = z.before.before in
    let b = l in
    let s = b.args.s in
    let free = sym (ap is_free b.in-Free.is) in
    let more = sym (lt-leb MAX_BEGUN s.figures.begun (omega arith)) in
    let room = sym l.if-full.false in
    let fits = b.requires.0 in
    let none = sym (sign above_zero _ fits z.above_zero.ensures ∙ g.if-above_zero.false) in
    (λ i. record {
      code = 0x20;
      woken = 0xFF;
      steps = 3;
      turns = 0;
      figures = g.after_acquire-2.ensures i;
      slot = c.with_phase.ensures i;
      seat = c.waited_by.ensures i;
    })
    ∙ (λ i. plan_acquire (free i) (more i) (room i) (none i) s)
