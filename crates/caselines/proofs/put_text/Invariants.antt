-- `put_text` meets its contract: what is written is what the bytes so far read as.
use Rattle.caselines.proofs.Laws.Text.{Upto}
use Rattle.caselines.proofs.put_text.Given as goal

abbrev pub invariant-loop-i : goal.invariant-loop-i
invariant-loop-i l = Upto l.bytes l.out l.i
