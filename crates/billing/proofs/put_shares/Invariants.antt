-- `put_shares` meets its contract: from any turn on the shares passed are written.
use lib.ListN.{get_or, length}
use Rattle.billing.proofs.Laws.Bytes.{Written}
use Rattle.billing.proofs.put_shares.Given as goal

abbrev pub invariant-loop-p : goal.invariant-loop-p
invariant-loop-p l = Written (λ i. get_or l.fn.shares i 0) (length l.fn.shares) l.initial.out l.out l.p
