-- `put_waiters` meets its contract: those written and those still to come are all that wait.
use lib.ListN.{drop}
use Rattle.deskline.proofs.Laws.Numbers.{Listed}
use Rattle.deskline.proofs.text.put_waiters.Given as goal

abbrev pub invariant-loop-party : goal.invariant-loop-party
invariant-loop-party l = Listed l.at l.initial.out l.party-items (drop l.party-index l.party-items) l.party-index l.end l.out
