-- `put_shares` meets its contract: from any turn on the shares passed are written.
use Rattle.billing.proofs.Laws.Bytes.{written_none, written_next}
use Rattle.billing.proofs.put_shares.Goals as goal

pub loop-p-init : goal.loop-p-init
loop-p-init c = written_none _ _ _

pub loop-p-preserved : goal.loop-p-preserved
loop-p-preserved c = written_next c.requires c.loop-p.invariant c.loop-p-test.true c.put_number.ensures
