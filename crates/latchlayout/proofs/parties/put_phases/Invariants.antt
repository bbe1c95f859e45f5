-- `put_phases` meets its contract: the phases so far are written.
use mathlib.Core.List.{◌∷◌}
use Rattle.hub.specs.Phases.{ticket_of}
use Rattle.latch.specs.declared.record.LatchSlot.{LatchSlot}
use Rattle.cells.specs.Bytes.{four_of}
use Rattle.cells.proofs.Laws.Cells.{Celled}
use Rattle.latchlayout.specs.Written.{name_of}
use Rattle.latchlayout.proofs.parties.put_phases.Given as goal

abbrev pub invariant-loop-p : goal.invariant-loop-p
invariant-loop-p l = Celled (λ (s : LatchSlot). name_of s.phase s.raising ∷ four_of (ticket_of s.phase)) l.slots 32 l.out l.p
