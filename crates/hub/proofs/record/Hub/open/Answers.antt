-- `Hub::open` meets its contract, by those of the slots, of the figures and of the pool.
use Rattle.hub.specs.Opening.{fresh}
use Rattle.hub.proofs.record.Hub.open.Goals as goal

pub returns : goal.returns
unfolding fresh
returns c = cc
