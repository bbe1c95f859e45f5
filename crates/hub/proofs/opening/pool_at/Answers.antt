-- `pool_at` meets its contract: the opening's array has all of its 32 bytes.
use Rattle.std.proofs.Common.{refl, rules}
use Rattle.hub.proofs.Laws.Radios.{padded-same}
use Rattle.hub.proofs.opening.pool_at.Goals as goal

pub returns : goal.returns
returns c = rw (c.from.ensures, padded-same c.args.o.radios (search rules)) refl
