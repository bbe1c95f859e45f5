-- `count_grants` meets its contract: from any turn on the table has what the lines before gave.
use Prim.Native.Nat.{◌<◌}
use mathlib.Core.Path.{◌∙◌}
use native.Mathlib.Omega.{arith}
use Rattle.billing.specs.Counting.{lines_in}
use Rattle.billing.proofs.Laws.Counting.{counted_none, counted-all, counted-room}
use Rattle.billing.proofs.Laws.Counting.{counted-one, counted-other, line_is, counted_is, uncounted}
use Rattle.billing.proofs.count_grants.Goals as goal
use Rattle.billing.proofs.count_grants.Goals.{in-Some, in_default}

pub loop-line-init : goal.loop-line-init
loop-line-init c = counted_none _

pub overflow_add-grants : goal.overflow_add-grants
overflow_add-grants c =
    let r = counted_is _ c.receiver.ensures c.in-Some.is in
    omega (arith, counted-room c.loop-line.invariant c.in-Some.party r.1, c.loop-line.invariant.within)

pub loop-line-preserved : goal.loop-line-preserved
loop-line-preserved c =
    let within : c.loop-line.line-index < lines_in c.args.lines.now = omega arith in
    let line = line_is c.args.lines.now c.loop-line.line-index within c.as_chunks.ensures.front in
    elim c.match-receiver.branch [
      | in-Some w ↦
          let r = counted_is _ c.receiver.ensures w.in-Some.is in
          counted-one c.loop-line.invariant within (r.0 ∙ line) r.1 w.grants-is
      | in_default w ↦
          counted-other c.loop-line.invariant within line (uncounted _ c.receiver.ensures w.in_default.is) w.grants-is
    ]

pub returns : goal.returns
returns c = counted-all c.loop-line.invariant (omega arith)
