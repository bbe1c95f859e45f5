-- `is_empty` meets its contract: where the count is the table's, it is 0 when none is left there.
use Rattle.pool.proofs.Laws.Missing.{by-its-count}
use Rattle.pool.proofs.check.Missing.is_empty.Goals as goal

pub returns-clause-none : goal.returns-clause-none
returns-clause-none c = λ e. by-its-count c.args.self.now e
