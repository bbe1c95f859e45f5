-- `write_output` meets its contract: what is printed and what is still to come are the whole.
use mathlib.Core.Path.{◌≡◌}
use Rattle.wholeinput.proofs.Laws.Whole.{Printing}
use Rattle.wholeinput.proofs.whole.write_output.Given as goal

abbrev pub invariant-loop-piece : goal.invariant-loop-piece
invariant-loop-piece l = record {
  printing : Printing l.fn.input l.fn.out l.session l.out l.lines l.piece-iterator.rest.now;
  size : l.piece-iterator.size ≡ 4096;
}
