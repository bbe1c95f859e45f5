-- `divide` meets its contract: from any turn on the portions of the parties passed are worked out.
use Rattle.billing.proofs.Laws.Shares.{Divided}
use Rattle.billing.proofs.Terms.divide.Given as goal

abbrev pub invariant-loop-p : goal.invariant-loop-p
invariant-loop-p l = Divided l.self l.each l.left l.p
