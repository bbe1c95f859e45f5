-- What only an ask has to know.
use mathlib.Core.Path.{◌≡◌, refl}
use mathlib.Core.Bool.{Bool}
use Rattle.hub.specs.declared.moves.Op.{Op}
use Rattle.hub.specs.declared.moves.Op.TheVariants.{Acquire, Step, Cancel, Release, Radio}
use Rattle.hub.specs.declared.moves.Sight.{Sight}
use Rattle.hub.specs.Table.{decide}
use Rattle.transition.specs.Room.{full_for}

pub as-asked : (b : Bool) (s : Sight) (o : Op) → decide o (full_for o b) s ≡ decide o b s
unfolding decide
as-asked b s Acquire = refl
as-asked b s Step = refl
as-asked b s Cancel = refl
as-asked b s Release = refl
as-asked b s Radio = refl
