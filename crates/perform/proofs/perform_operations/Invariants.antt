-- `perform_operations` meets its contract: the record made of the locals is that of the operations so far, and what is
-- written with what is still to come is the whole.
use mathlib.Core.Path.{◌≡◌}
use mathlib.Core.List.{List}
use Prim.Native.Nat.{ℕ, ◌+◌, ◌-◌, ◌≤◌}
use lib.ListN.{length}
use Rattle.hub.specs.Record.{control_of, of_fields}
use Rattle.hub.specs.declared.record.PlaceSlot.{PlaceSlot}
use Rattle.hub.specs.Ring.{Ring}
use Rattle.tidystep.proofs.Laws.Tidying.{Partway}
use Rattle.perform.proofs.Laws.Answers.{Upto}
use Rattle.perform.proofs.perform_operations.Given as goal

-- The ring of the tidying.
abbrev pub ring : ℕ → ℕ → List PlaceSlot → Ring
ring r o l = record { resumed = r; oldest = o; places = l }

abbrev pub invariant-loop-tidying : goal.invariant-loop-tidying
invariant-loop-tidying l = Partway l.initial.tidying.skips (ring l.initial.tidying.resumed l.initial.tidying.oldest l.initial.places)
    (ring l.tidying.resumed l.tidying.oldest l.places) l.tidying.skips l.tidying.retires
    × (l.initial.tidying.oldest ≤ 1000000) × (l.initial.tidying.skips ≤ 256)

abbrev pub decreases-loop-tidying : goal.decreases-loop-tidying
decreases-loop-tidying l = l.tidying.skips + l.tidying.retires

abbrev pub invariant-loop-i : goal.invariant-loop-i
invariant-loop-i l = Upto (of_fields l.initial.places l.initial.slots (control_of l.opening l.initial.figures l.initial.oldest l.initial.pool)) l.operations l.initial.out
    (of_fields l.places l.slots (control_of l.opening l.figures l.oldest l.pool)) l.out l.i
    × (length l.slots ≡ 32)
