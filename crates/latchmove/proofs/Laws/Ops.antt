-- Only await has to know whether there is room.
use mathlib.Core.Path.{◌≡◌, refl}
use mathlib.Core.Bool.{Bool, false}
use mathlib.Core.List.{[], ◌∷◌}
use types.Run.{OneOf, miss}
use denote.Enum.Declared.{tag_of}
use Rattle.latch.specs.declared.moves.LatchOp.{LatchOp}
use Rattle.latch.specs.declared.moves.LatchOp.TheVariants.{Await, Step, Cancel, CountDown}
use Rattle.latch.specs.declared.moves.LatchSight.{LatchSight}
use Rattle.latch.specs.Table.{decide}
use Rattle.latch.specs.contracts.moves.LatchOp as op
use Rattle.latcheffect.specs.Effect.{effect_by}
use Rattle.latchmove.specs.Room.{full_for}

pub unasked : (b : Bool) (o : LatchOp) → OneOf (1 ∷ 2 ∷ 3 ∷ []) (tag_of op.the_type o) → false ≡ full_for o b
unasked b Await t = absurd (miss (1 ∷ 2 ∷ 3 ∷ []) 0 tt t)
unasked b Step t = refl
unasked b Cancel t = refl
unasked b CountDown t = refl

pub as-asked : (b : Bool) (s : LatchSight) (o : LatchOp) → effect_by o (full_for o b) s ≡ effect_by o b s
unfolding effect_by decide
as-asked b s Await = refl
as-asked b s Step = refl
as-asked b s Cancel = refl
as-asked b s CountDown = refl
