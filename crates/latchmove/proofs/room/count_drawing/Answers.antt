-- `count_drawing` meets its contract: each turn counts one, and after the last nothing is left.
use Rattle.std.proofs.Common.{rules, sym, ap, ◌∙◌, ◌≡◌, ◌≤◌, length}
use mathlib.Core.Path.{subst}
use Rattle.hub.specs.Basics.{bit, count}
use Rattle.hub.specs.Phases.{draws_ticket}
use Rattle.latch.specs.declared.record.LatchSlot.{LatchSlot}
use Rattle.latch.specs.Record.{phases_of}
use Rattle.counts.proofs.Laws.Counting.{Counting, bit-of, counting-all, counting-on, counting-start}
use Rattle.latchmove.proofs.Laws.Counting.{by_slots, draws-few}
use Rattle.latchmove.proofs.room.count_drawing.Goals as goal

pub loop-slot-init : goal.loop-slot-init
loop-slot-init c =
    let size : length c.args.slots ≡ 32 = search rules in
    subst (λ n. Counting (λ (s : LatchSlot). draws_ticket s.phase) c.args.slots n 0 0) size (counting-start _ c.args.slots)

pub loop-slot-preserved : goal.loop-slot-preserved
loop-slot-preserved c =
    counting-on _ _ _ _ _ c.loop-slot.invariant _ _ c.loop-slot-test.true
    (c.from-n.ensures ∙ bit-of _ ∙ ap bit c.draws_ticket.ensures)

pub returns : goal.returns
returns c =
    let l = c.args.slots in
    let size : length l ≡ 32 = search rules in
    let e : c.loop-slot.n ≡ count draws_ticket (phases_of l) =
    counting-all _ _ _ _ _ c.loop-slot.invariant c.loop-slot-test.false ∙ sym (by_slots l) in
    (e, subst (λ n. n ≤ 32) (sym e) (subst (λ n. count draws_ticket (phases_of l) ≤ n) size (draws-few l)))
