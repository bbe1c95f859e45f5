-- `waiters_fit` meets its contract: the window is gone through by the index of its places, eight in a turn.
use native.Mathlib.Omega.{arith}
use Rattle.clauses.specs.Window.{waiter_fits}
use Rattle.clauses.proofs.Laws.Bools.{failed, passed}
use Rattle.clauses.proofs.Laws.Ranges.{none_left, window-by-index, row_fails, row_passes}
use Rattle.clauses.proofs.waiters_fit.Goals as goal

pub loop-row-init : goal.loop-row-init
loop-row-init g c =
    let k = g.S.Slot in
    window-by-index (waiter_fits k.phase_of k.nobody c.args.slots.now) c.args.places.now c.args.oldest

pub returns-then-not-row_fits : goal.returns-then-not-row_fits
returns-then-not-row_fits g c =
    row_fails _ _ _ c.loop-row-test.true c.loop-row.invariant (failed c.row_fits.ensures c.if-not-row_fits.true-raw)

pub loop-row-preserved : goal.loop-row-preserved
loop-row-preserved g c =
    row_passes _ _ _ c.loop-row-test.true c.loop-row.invariant (passed c.row_fits.ensures c.if-not-row_fits.false-raw)

pub returns : goal.returns
returns g c = none_left _ _ _ _ c.loop-row.invariant (omega (arith, c.loop-row-test.false))
