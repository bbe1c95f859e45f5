-- `put_places` meets its contract: the places so far are written.
use mathlib.Core.List.{◌∷◌}
use Rattle.hub.specs.declared.record.PlaceSlot.{PlaceSlot}
use Rattle.hub.specs.Phases.{place_rank}
use Rattle.cells.specs.Bytes.{four_of}
use Rattle.cells.specs.Places.{waiter_of}
use Rattle.cells.proofs.Laws.Cells.{Celled}
use Rattle.cells.proofs.cell.put_places.Given as goal

abbrev pub invariant-loop-i : goal.invariant-loop-i
invariant-loop-i l = Celled (λ (s : PlaceSlot). place_rank s.place ∷ four_of (waiter_of s.place)) l.places 256 l.out l.i
