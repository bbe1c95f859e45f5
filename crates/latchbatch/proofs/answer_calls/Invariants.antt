-- `answer_calls` meets its contract: the record made of the locals is that of the calls so far, and what is
-- written with what is still to come is the whole.
use mathlib.Core.Path.{◌≡◌}
use lib.ListN.{length}
use Rattle.latch.specs.Record.{of_fields}
use Rattle.latchbatch.proofs.Laws.Upto.{Upto}
use Rattle.latchbatch.proofs.answer_calls.Given as goal

abbrev pub invariant-loop-i : goal.invariant-loop-i
invariant-loop-i l = Upto (of_fields l.parties l.initial.figures l.initial.oldest l.initial.places l.initial.slots) l.count l.calls l.initial.out (of_fields l.parties l.figures l.oldest l.places l.slots) l.out l.i
    × (length l.slots ≡ 32)
