-- `decode` meets its contract: the bytes written and those that the rest spells are the line's.
use mathlib.Core.Path.{◌≡◌}
use Rattle.line.proofs.Laws.Decoding.{Decoding}
use Rattle.line.proofs.request.decode.Given as goal

abbrev pub invariant-loop-i : goal.invariant-loop-i
invariant-loop-i l =
    record {
      decoding : Decoding l.line l.bytes l.i-iterator.iter.rest.now l.i-iterator.count;
      size : l.i-iterator.iter.size ≡ 2;
    }
