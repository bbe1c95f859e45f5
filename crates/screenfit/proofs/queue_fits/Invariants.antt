-- `queue_fits` meets its contract: a party that is marked holds, or was met before.
use Rattle.screen.proofs.Laws.Walks.{Walked}
use Rattle.screenfit.proofs.queue_fits.Given as goal

abbrev pub invariant-loop-party : goal.invariant-loop-party
invariant-loop-party l = Walked l.line.holding l.line.parties l.party-items l.met l.party-index
