-- `feed` meets its contract: what is printed and what is still to come are the whole.
use Rattle.deskfeed.proofs.Laws.Feeding.{Upto}
use Rattle.deskfeed.proofs.session.feed.Given as goal

abbrev pub invariant-loop-c : goal.invariant-loop-c
invariant-loop-c l =
    Upto l.fn.session.line l.fn.session.reader l.piece l.fn.out l.line (record { line = l.text; len = l.len }) l.out l.size l.c-index
