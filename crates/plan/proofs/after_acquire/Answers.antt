-- `after_acquire` meets its contract: a counter that fits still fits an `i32` once one is taken off it.
use Prim.Native.Nat.{◌+◌}
use mathlib.Core.Path.{ap}
use lib.IntN.{ℤ}
use Rattle.hub.specs.Table.{with_begun, with_counter, with_issued}
use Rattle.effects.proofs.Laws.Counter.{less, less-fits}
use Rattle.plan.proofs.after_acquire.Goals as goal

pub overflow_sub-result : goal.overflow_sub-result
overflow_sub-result c = less-fits c.args.figures.counter c.requires.0

pub returns : goal.returns
returns c =
    let b = c in
    let f = b.args.figures in
    ap (λ (z : ℤ). with_counter z (with_issued b.args.issued (with_begun (f.begun + 1) f)))
    (less f.counter b.requires.0)
