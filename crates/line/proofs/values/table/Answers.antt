-- `table` meets its contract: each entry passes the test.
use mathlib.Core.Path.{refl}
use Rattle.encoding.specs.Hex.{digit_of}
use Rattle.encoding.proofs.Laws.Tables.{values-right}
use Rattle.line.proofs.values.table.Goals as goal

pub returns : goal.returns
unfolding digit_of
returns c = values-right _ refl refl
