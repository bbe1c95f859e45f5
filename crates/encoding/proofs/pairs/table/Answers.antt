-- `table` meets its contract: each entry passes the test.
use mathlib.Core.Path.{refl}
use Rattle.encoding.proofs.Laws.Tables.{pairs-right}
use Rattle.encoding.proofs.pairs.table.Goals as goal

pub returns : goal.returns
returns c = pairs-right _ refl refl
