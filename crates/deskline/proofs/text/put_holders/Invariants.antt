-- `put_holders` meets its contract: those written and those still to come are all that hold.
use lib.ListN.{drop}
use Rattle.screen.specs.Line.{holders_from}
use Rattle.deskline.proofs.Laws.Numbers.{Listed}
use Rattle.deskline.proofs.text.put_holders.Given as goal

abbrev pub invariant-loop-party : goal.invariant-loop-party
invariant-loop-party l = Listed l.at l.initial.out (holders_from 0 l.line.holding) (holders_from l.party
    (drop l.party l.line.holding)) l.party l.end l.out
