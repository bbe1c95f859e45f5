-- `taken` meets its contract: a counter that fits still fits an `i32` once one is taken off it.
use mathlib.Core.Path.{ap, ◌∙◌}
use lib.IntN.{ℤ}
use Rattle.hub.specs.declared.record.Figures.{Figures}
use Rattle.hub.specs.Moves.{Act}
use Rattle.hub.specs.Table.{change, with_counter}
use Rattle.effects.specs.declared.effect.Effect.{Effect}
use Rattle.effects.specs.Effect.{effect_of}
use Rattle.effects.proofs.Laws.Counter.{less, less-fits}
use Rattle.effects.proofs.changes.taken.Goals as goal

pub overflow_sub-counter : goal.overflow_sub-counter
overflow_sub-counter c = less-fits c.args.s.figures.counter c.requires

pub returns : goal.returns
returns c =
    let b = c in
    let a = b.args in
    let e : Figures → Effect = λ f. effect_of (Act (change a.phase f a.answer a.s)) a.s in
    c.acted.ensures
    ∙ ap e
    (c.with_counter.ensures
    ∙ ap (λ (z : ℤ). with_counter z a.s.figures) (less a.s.figures.counter b.requires))
