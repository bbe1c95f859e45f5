-- `perform_operations` meets its contract: the record made of the locals is that of the operations so far, and what is
-- written with what is still to come is the whole.
use mathlib.Core.Path.{◌≡◌, ap, ◌∙◌}
use mathlib.Core.List.{List}
use native.Mathlib.Omega.{arith}
use lib.ListN.{set}
use Rattle.hub.specs.declared.record.Hub.{Hub}
use Rattle.hub.specs.declared.record.PartySlot.{PartySlot}
use Rattle.hub.specs.declared.record.Phase.{Phase}
use Rattle.hub.specs.Calls.{with_ring}
use Rattle.hub.specs.Record.{control_of, of_fields, read_slot, with_phase, write_slot}
use Rattle.hub.specs.Ring.{read_seat, write_seat}
use Rattle.transition.proofs.Laws.Radios.{few-stored, with-radios, without-radios}
use Rattle.transition.proofs.Laws.Stored.{nobody}
use Rattle.tidystep.proofs.Laws.Tidying.{tidying-ends, tidying, steps_on}
use Rattle.perform.proofs.Laws.Answers.{ended}
use Rattle.perform.proofs.Laws.Comes.{pool_by}
use Rattle.perform.proofs.Laws.Turn.{fit, counts, turned_down, turns-most, one_more, still-32}
use Rattle.perform.proofs.perform_operations.Goals as goal
use Rattle.perform.proofs.perform_operations.Goals.{then-plan-lt32, else-plan-lt32, then-opening, else-opening}

pub loop-i-preserved-then-opening-party : goal.loop-i-preserved-then-opening-party
loop-i-preserved-then-opening-party c =
    let k = c.loop-i.invariant in (
      turned_down _ _ _ _ _ _ k.0 k.1 c.loop-i-test.true _ _ c.code_at-code.ensures c.party_at-party.ensures
          c.if-opening-party.true _ c.put_at.ensures,
      k.1,
    )

pub bounds-slots-own : goal.bounds-slots-own
bounds-slots-own c =
    omega (arith, c.if-opening-party.false, (counts _ _ _ _ _ _ c.loop-i.invariant.0).parties)

pub bounds-opening-own : goal.bounds-opening-own
bounds-opening-own c =
    omega (arith, c.if-opening-party.false, (counts _ _ _ _ _ _ c.loop-i.invariant.0).parties)

pub bounds-slots-own-in-loop-i-2 : goal.bounds-slots-own-in-loop-i-2
bounds-slots-own-in-loop-i-2 c =
    omega (arith, c.if-opening-party.false, (counts _ _ _ _ _ _ c.loop-i.invariant.0).parties)

pub is_full_for-full-requires : goal.is_full_for-full-requires
is_full_for-full-requires c = (counts _ _ _ _ _ _ c.loop-i.invariant.0).oldest

pub plan_for-plan-requires : goal.plan_for-plan-requires
plan_for-plan-requires c =
    let n = counts _ _ _ _ _ _ c.loop-i.invariant.0 in (n.counter, n.issued, n.resumed)

pub bounds-slots-own-in-loop-i : goal.bounds-slots-own-in-loop-i
bounds-slots-own-in-loop-i c =
    omega (arith, c.if-opening-party.false, (counts _ _ _ _ _ _ c.loop-i.invariant.0).parties)

pub radios_after_operation-pool-requires : goal.radios_after_operation-pool-requires
radios_after_operation-pool-requires c =
    few-stored _ (fit _ _ _ _ _ _ c.loop-i.invariant.0) c.if-opening.true

pub loop-tidying-init : goal.loop-tidying-init
unfolding read_slot
loop-tidying-init c =
    let k = c.loop-i.invariant in (
      tidying _ _,
      (counts _ _ _ _ _ _ k.0).oldest,
      turns-most _ _ _ _ _ _ k.0 k.1 c.loop-i-test.true _ _ c.code_at-code.ensures c.party_at-party.ensures
          c.if-opening-party.false _ c.place_for-t.ensures _ c.is_full_for-full.ensures _ c.plan_for-plan.ensures,
    )

pub loop-tidying-smaller : goal.loop-tidying-smaller
unfolding read_seat
loop-tidying-smaller c =
    (steps_on _ _ _ _ _ c.loop-tidying.invariant.0 c.loop-tidying-test.true _ c.step-turn.ensures).1

pub loop-tidying-preserved : goal.loop-tidying-preserved
unfolding read_seat write_seat
loop-tidying-preserved c =
    let i = c.loop-tidying.invariant in
    ((steps_on _ _ _ _ _ i.0 c.loop-tidying-test.true _ c.step-turn.ensures).0, i.1, i.2)

pub loop-i-preserved : goal.loop-i-preserved
unfolding read_slot write_slot
loop-i-preserved c =
    let k = c.loop-i.invariant in
    let h : Hub =
    of_fields c.loop-i.places c.loop-i.slots
    (control_of c.args.hub.control.opening c.loop-i.figures c.loop-i.oldest c.loop-i.pool) in
    let plan = c.plan_for-plan.result in
    let code = c.code_at-code.result in
    let party = c.party_at-party.result in
    let woken : List PartySlot =
    write_slot c.loop-i.slots plan.woken (with_phase Phase.Holding (read_slot c.loop-i.slots plan.woken)) in
    let slots-are : c.if-plan-lt32.slots ≡ woken =
    elim c.if-plan-lt32.branch [
      | then-plan-lt32 w ↦ w.slots-is ∙ ap (set c.loop-i.slots plan.woken) w.with_phase.ensures
      | else-plan-lt32 w ↦
          w.slots-is
          ∙ nobody c.loop-i.slots plan.woken (with_phase Phase.Holding (read_slot c.loop-i.slots plan.woken))
          (omega (arith, k.1, w.if-plan-lt32.false))
    ] in
    let pool-is : c.if-opening.pool ≡ pool_by h party code plan =
    elim c.if-opening.branch [
      | then-opening w ↦ with-radios _ _ _ _ _ w.if-opening.true (w.pool-is ∙ w.radios_after_operation-pool.ensures)
      | else-opening w ↦ w.pool-is ∙ without-radios _ _ _ _ w.if-opening.false
    ] in
    let ends = tidying-ends _ _ _ _ _ c.loop-tidying.invariant.0 c.loop-tidying-test.false in (
      one_more _ _ _ h _ _ k.0 k.1 c.loop-i-test.true code party c.code_at-code.ensures c.party_at-party.ensures
          c.if-opening-party.false _ c.place_for-t.ensures _ c.is_full_for-full.ensures plan c.plan_for-plan.ensures
          _ slots-are _ pool-is _ _
          (ap (with_ring (of_fields (set c.loop-i.places c.place_for-t.result plan.seat)
          (write_slot c.if-plan-lt32.slots party plan.slot)
          (control_of c.args.hub.control.opening plan.figures c.loop-i.oldest c.if-opening.pool))) ends)
          c.put_at-in-loop-i.ensures,
      still-32 _ _ _ h _ _ k.0 k.1 c.loop-i-test.true code party c.code_at-code.ensures c.party_at-party.ensures
          c.if-opening-party.false _ c.place_for-t.ensures _ c.is_full_for-full.ensures plan c.plan_for-plan.ensures
          _ slots-are _ pool-is,
    )

pub returns : goal.returns
returns c = ended _ _ _ _ _ _ c.loop-i.invariant.0 c.loop-i-test.false
