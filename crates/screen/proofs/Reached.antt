-- A line fits exactly if its moves reach it.
use Rattle.screen.specs.Reached.{FitsIfReached}
use Rattle.screen.proofs.Laws.Fit.{fit, fits}
use Rattle.screen.proofs.Reached.Built.{sound-reached}
use Rattle.screen.proofs.Reached.Moved.{reached-sound}
pub mod Sound
pub mod Moved
pub mod Built

pub fits-if-reached : FitsIfReached
unfolding FitsIfReached
fits-if-reached = (
  λ l r. fits l (reached-sound l r).fit,
  λ l s e. sound-reached l s.kinds (record { fit = fit l e; holding = s.holding; queue = s.queue }),
)
