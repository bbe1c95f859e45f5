-- `count_drawing` meets its contract: what is counted and what is left come to the whole.
use Rattle.hub.specs.Phases.{draws_ticket}
use Rattle.latch.specs.declared.record.LatchSlot.{LatchSlot}
use Rattle.counts.proofs.Laws.Counting.{Counting}
use Rattle.latchmove.proofs.room.count_drawing.Given as goal

abbrev pub invariant-loop-slot : goal.invariant-loop-slot
invariant-loop-slot l = Counting (λ (s : LatchSlot). draws_ticket s.phase) l.fn.slots 32 l.slot-index l.n
