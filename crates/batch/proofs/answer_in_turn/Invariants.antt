-- `answer_in_turn` meets its contract: the record made of its parts is that of the requests so
-- far, and what is written with what is still to come is the whole.
use mathlib.Core.Path.{◌≡◌}
use lib.ListN.{length}
use Rattle.batch.specs.Batch.{of_parts}
use Rattle.batch.proofs.Laws.Responses.{Upto}
use Rattle.batch.proofs.answer_in_turn.Given as goal

abbrev pub invariant-loop-i : goal.invariant-loop-i
invariant-loop-i g l = Upto g.F.Form.form (of_parts l.opening l.initial.figures l.initial.ring l.initial.slots l.initial.pool) l.count l.requests l.initial.out
    (of_parts l.opening l.figures l.ring l.slots l.pool) l.out l.i
    × (length l.slots ≡ 32)
