-- `put_phases` meets its contract: the phases so far are written.
use mathlib.Core.List.{◌∷◌}
use Rattle.hub.specs.declared.record.PartySlot.{PartySlot}
use Rattle.hub.specs.Phases.{ticket_of}
use Rattle.cells.specs.Bytes.{four_of}
use Rattle.cells.specs.Phases.{phase_name}
use Rattle.cells.proofs.Laws.Cells.{Celled}
use Rattle.layout.proofs.parties.put_phases.Given as goal

abbrev pub invariant-loop-p : goal.invariant-loop-p
invariant-loop-p l = Celled (λ (s : PartySlot). phase_name s.phase ∷ four_of (ticket_of s.phase)) l.slots 32 l.out l.p
