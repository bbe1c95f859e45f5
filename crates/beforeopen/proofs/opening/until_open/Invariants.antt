-- `until_open` meets its contract: what the characters read so far came to, and how far it is to the
-- line that opens a hub.
use Rattle.beforeopen.proofs.Laws.Opening.{Upto}
use Rattle.beforeopen.proofs.opening.until_open.Given as goal

abbrev pub invariant-loop-i : goal.invariant-loop-i
invariant-loop-i l = Upto l.fn.reader l.piece l.fn.out l.current l.out l.lines l.i
