-- `waiters_fit` meets its contract: the window is gone through by the index of its places, eight in a turn.
use Prim.Native.Nat.{◌*◌}
use Rattle.hub.specs.Basics.{all_from}
use Rattle.hub.specs.Ring.{read_place}
use Rattle.clauses.specs.Window.{seat_fits, waiter_fits}
use Rattle.clauses.proofs.Laws.Ranges.{Left}
use Rattle.clauses.proofs.waiters_fit.Given as goal

abbrev pub invariant-loop-row : goal.invariant-loop-row
invariant-loop-row g l =
    let k = g.S.Slot in
    Left (seat_fits k.phase_of k.nobody l.slots l.places l.oldest) 256
    (all_from (λ t. waiter_fits k.phase_of k.nobody l.slots t (read_place l.places t)) l.oldest 256) (8 * l.row)
