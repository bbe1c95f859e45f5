-- `count_grants` meets its contract: from any turn on the table has what the lines before gave.
use Rattle.billing.proofs.Laws.Counting.{Counted}
use Rattle.billing.proofs.count_grants.Given as goal

abbrev pub invariant-loop-line : goal.invariant-loop-line
invariant-loop-line l = Counted l.lines l.line-index l.grants
