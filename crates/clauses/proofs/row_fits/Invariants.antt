-- `row_fits` meets its contract: what is left of the row says what the whole row says.
use Prim.Native.Nat.{◌+◌}
use Rattle.hub.specs.Basics.{all_from}
use Rattle.clauses.specs.Window.{seat_fits}
use Rattle.clauses.proofs.Laws.Ranges.{Left}
use Rattle.clauses.proofs.row_fits.Given as goal

abbrev pub invariant-loop-i : goal.invariant-loop-i
invariant-loop-i g l =
    let f = seat_fits g.S.Slot.phase_of g.S.Slot.nobody l.slots l.places l.oldest in
    Left f (l.first + 8) (all_from f l.first 8) l.i
