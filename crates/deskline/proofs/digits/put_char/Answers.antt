-- `put_char` meets its contract: one element is set.
use native.Mathlib.Omega.{arith}
use mathlib.Core.Path.{refl}
use Rattle.deskline.proofs.Laws.PutAt.{put-at-one}
use Rattle.deskline.proofs.digits.put_char.Goals as goal

pub returns : goal.returns
returns c = (refl, put-at-one _ _ _ (omega arith))
