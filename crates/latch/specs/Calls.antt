-- What is refused, and what a call that is not refused leaves.
use Rattle.std.specs.Prelude.{ℕ, ◌+◌, Bool, true, false, List, leb, ltb}
use Rattle.hub.specs.declared.answers.Answer.{Answer}
use Rattle.hub.specs.declared.answers.Refusal.{Refusal}
use Rattle.hub.specs.declared.record.Phase.{Phase}
use Rattle.hub.specs.declared.record.PlaceSlot.{PlaceSlot}
use Rattle.hub.specs.Basics.{count}
use Rattle.hub.specs.Phases.{by_ticket, draws_ticket}
use Rattle.hub.specs.Ring.{PLACES, Ring, reclaimed, write_seat}
use Rattle.latch.specs.declared.moves.LatchCall.{LatchCall}
use Rattle.latch.specs.declared.moves.LatchSight.{LatchSight}
use Rattle.latch.specs.declared.record.Latch.{Latch}
use Rattle.latch.specs.declared.record.LatchOutcome.{LatchOutcome}
use Rattle.latch.specs.declared.record.LatchSlot.{LatchSlot}
use Rattle.latch.specs.Fits.{fits}
use Rattle.latch.specs.Look.{look}
use Rattle.latch.specs.Moves.{Change}
use Rattle.latch.specs.Moves.{Move}
use Rattle.latch.specs.Moves.{Refuse, Act, Put, Wake}
use Rattle.latch.specs.Record.{phases_of, with_figures, with_parts, with_places, with_slots, write_slot}
use Rattle.latch.specs.Table.{decide, with_resumed}

-- 7: the tickets issued, i of them, and those that may yet be drawn, by parties asked, raising or unnumbered,
-- fill the 256 places from o on.
abbrev pub is_full : ℕ → ℕ → List LatchSlot → Bool
is_full o i l = leb (o + PLACES) (i + count draws_ticket (phases_of l))

-- 1, then 4, then the call's own.
unfoldable pub checked : Bool → Bool → Move → Move
checked false b m = Refuse Refusal.Unfit
checked true false m = Refuse Refusal.NoSuchParty
checked true true m = m

abbrev pub move_of : Latch → LatchCall → Move
move_of h c =
    checked (fits h) (ltb c.party h.parties)
    (decide c.op (is_full h.oldest h.figures.issued h.slots) (look h c.party))

-- The slot of party p and the figures change.
abbrev pub acted : Latch → ℕ → Change → Latch
acted h p c = with_slots (write_slot h.slots p c.slot) (with_figures c.figures h)

-- The place of the ticket of a phase f becomes a.
abbrev pub placed : Latch → Phase → PlaceSlot → Latch
placed h f a = with_places (by_ticket h.places (λ t. write_seat h.places t a) f) h

-- The slot of the waiter q becomes s.
abbrev pub woken : Latch → ℕ → LatchSlot → Latch
woken h q s = with_slots (write_slot h.slots q s) h

-- The tidying, as at the hub.
abbrev pub ring_of : Latch → Ring
ring_of h = record { resumed = h.figures.resumed; oldest = h.oldest; places = h.places }

abbrev pub with_ring : Latch → Ring → Latch
with_ring h r = with_parts (with_resumed r.resumed h.figures) r.oldest r.places h.slots h

unfoldable pub tidied : Latch → Latch
tidied h = with_ring h (reclaimed (ring_of h))

-- What a move answers.
abbrev pub answer_of : Move → Answer
answer_of (Refuse r) = Answer.Refused r
answer_of (Act c) = c.answer
answer_of (Put a c) = c.answer
answer_of (Wake q s a c) = c.answer

-- The record that it leaves. A refusal leaves it as it was; a success ends with the tidying.
unfoldable pub apply : Latch → LatchSight → Move → Latch
apply h s (Refuse r) = h
apply h s (Act c) = tidied (acted h s.party c)
apply h s (Put a c) = tidied (acted (placed h s.slot.phase a) s.party c)
apply h s (Wake q x a c) =
    tidied (acted (placed (woken h q x) s.slot.phase a) s.party c)

-- What a call answers, and the record that it leaves.
abbrev pub called : Latch → LatchCall → LatchOutcome
called h c =
    let m = move_of h c in
    record { answer = answer_of m; latch = apply h (look h c.party) m }
