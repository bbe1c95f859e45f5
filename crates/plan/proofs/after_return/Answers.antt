-- `after_return` meets its contract: a counter that fits still fits an `i32` once one is added to it.
use mathlib.Core.Path.{ap}
use lib.IntN.{ℤ}
use Rattle.hub.specs.Table.{with_counter, with_resumed}
use Rattle.effects.proofs.Laws.Counter.{more, more-fits}
use Rattle.plan.proofs.after_return.Goals as goal

pub overflow_add-result : goal.overflow_add-result
overflow_add-result c = more-fits c.args.figures.counter c.requires

pub returns : goal.returns
returns c =
    let b = c in
    let f = b.args.figures in
    ap (λ (z : ℤ). with_counter z (with_resumed b.args.resumed f))
    (more f.counter b.requires)
