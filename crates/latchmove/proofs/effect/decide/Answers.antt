-- `decide` meets its contract: what only an await has to know is known for an await.
use mathlib.Core.Path.{ap, ◌∙◌}
use mathlib.Core.Bool.{Bool}
use Rattle.latcheffect.specs.Effect.{effect_by}
use Rattle.latchmove.proofs.Laws.Ops.{as-asked}
use Rattle.latchmove.proofs.effect.decide.Goals as goal

pub returns : goal.returns
returns c =
    let a = c.args in
    c.decide_by.ensures
    ∙ ap (λ (b : Bool). effect_by a.op b a.s) c.full_for.ensures
    ∙ as-asked _ a.s a.op
