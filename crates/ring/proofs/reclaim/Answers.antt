-- `reclaim` meets its contract: the turns of its loops are those of the definition, and the first leaves oldest alone.
use borrow.Author.Tests.{not-true, not-false}
use native.Mathlib.Omega.{arith}
use mathlib.Core.Path.{◌≡◌, sym, ap, ◌∙◌}
use Rattle.hub.specs.Ring.{read_seat, write_seat, skip, retire}
use Rattle.transition.proofs.Laws.Loops.{can-skip, skipping-on}
use Rattle.transition.proofs.Laws.Loops.{skipping-stop, skipping-end}
use Rattle.transition.proofs.Laws.Loops.{retiring, retiring-on, retiring-stop, retiring-end}
use Rattle.ring.specs.Code.{ring_in}
use Rattle.ring.proofs.reclaim.Goals.{else-loop-test, then-loop-test+then-not-can_skip}
use Rattle.ring.proofs.reclaim.Goals as goal

pub loop-preserved : goal.loop-preserved
unfolding read_seat write_seat
loop-preserved c =
    let s = c.loop.invariant in
    let e = can-skip _ _ _ _ s.0 _ _ s.1 c.can_skip.ensures in
    let on =
    skipping-on _ _ _ _ s.0 _ c.with_place.ensures c.loop-test.true
    (e ∙ not-false _ c.if-not-can_skip.false-raw) in
    (on, s.1, s.2, s.3)

-- The first loop ends with what the definition's leaves, since its turns are over or its test fails.
pub loop-2-init : goal.loop-2-init
unfolding read_seat
loop-2-init c =
    let s = c.loop.invariant in
    let all : ring_in c.loop.ring ≡ skip c.args.turns (ring_in c.args.ring) =
    elim c.loop-test.branch [
      | else-loop-test w ↦ skipping-end _ _ _ _ s.0 w.loop-test.false
      | then-loop-test+then-not-can_skip w ↦
          skipping-stop _ _ _ _ s.0 (can-skip _ _ _ _ s.0 _ _ s.1 w.can_skip.ensures ∙ not-true _ w.if-not-can_skip.true-raw)
    ] in
    (retiring _ _, omega (arith, s.0.low, s.2), s.3, all)

pub loop-2-preserved : goal.loop-2-preserved
unfolding read_seat write_seat
loop-2-preserved c =
    let s = c.loop-2.invariant in
    let on =
    retiring-on _ _ _ _ s.0 _ c.empty_seat.ensures c.loop-2-test.true
    (sym c.can_retire.ensures ∙ not-false _ c.if-not-can_retire.false-raw) in
    (on, s.1, s.2, s.3)

pub returns-after-loop-2 : goal.returns-after-loop-2
returns-after-loop-2 c =
    let l = c.before in
    retiring-end _ _ _ _ l.loop-2.invariant.0 c.loop-2-test.false
    ∙ ap (retire l.args.turns) l.loop-2.invariant.3

pub returns-then-not-can_retire : goal.returns-then-not-can_retire
unfolding read_seat
returns-then-not-can_retire c =
    let l = c.before.before.before.before in
    retiring-stop _ _ _ _ l.loop-2.invariant.0
    (sym c.can_retire.ensures ∙ not-true _ c.if-not-can_retire.true-raw)
    ∙ ap (retire l.args.turns) l.loop-2.invariant.3
