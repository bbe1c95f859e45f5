-- "When the hub says no", and what a call that is not refused leaves.
use Rattle.std.specs.Prelude.{ℕ, ◌+◌, Bool, true, false, List, leb, ltb}
use Rattle.hub.specs.declared.answers.Answer.{Answer}
use Rattle.hub.specs.declared.answers.Refusal.{Refusal}
use Rattle.hub.specs.declared.moves.Call.{Call}
use Rattle.hub.specs.Moves.{Change}
use Rattle.hub.specs.Moves.{Move}
use Rattle.hub.specs.Moves.{Refuse, Tell, Act, Put, Wake}
use Rattle.hub.specs.declared.moves.Sight.{Sight}
use Rattle.hub.specs.declared.record.Hub.{Hub}
use Rattle.hub.specs.declared.record.Outcome.{Outcome}
use Rattle.hub.specs.declared.record.PartySlot.{PartySlot}
use Rattle.hub.specs.declared.record.Phase.{Phase}
use Rattle.hub.specs.declared.record.PlaceSlot.{PlaceSlot}
use Rattle.hub.specs.Answers.{printed}
use Rattle.hub.specs.Basics.{count}
use Rattle.hub.specs.Fits.{fits}
use Rattle.hub.specs.Look.{look}
use Rattle.hub.specs.Phases.{by_ticket, draws_ticket}
use Rattle.hub.specs.Radios.{pool_after}
use Rattle.hub.specs.Record.{phases_of, with_figures, with_parts, with_places, with_pool, with_slots, write_slot}
use Rattle.hub.specs.Ring.{PLACES, Ring, reclaimed, write_seat}
use Rattle.hub.specs.Table.{decide, with_resumed}

-- 7: the tickets issued, i of them, and those that may yet be drawn, fill the 256 places from o on.
abbrev pub is_full : ℕ → ℕ → List PartySlot → Bool
is_full o i l = leb (o + PLACES) (i + count draws_ticket (phases_of l))

-- 1, then 4, then the call's own.
unfoldable pub checked : Bool → Bool → Move → Move
checked false b m = Refuse Refusal.Unfit
checked true false m = Refuse Refusal.NoSuchParty
checked true true m = m

abbrev pub move_of : Hub → Call → Move
move_of h c =
    checked (fits h) (ltb c.party h.control.opening.parties)
    (decide c.op (is_full h.control.oldest h.control.figures.issued h.slots) (look h c.party))

-- The slot of party p and the figures change.
abbrev pub acted : Hub → ℕ → Change → Hub
acted h p c = with_slots (write_slot h.slots p c.slot) (with_figures c.figures h)

-- The place of the ticket of a phase f becomes a.
abbrev pub placed : Hub → Phase → PlaceSlot → Hub
placed h f a = with_places (by_ticket h.places (λ t. write_seat h.places t a) f) h

-- The slot of the waiter q becomes s.
abbrev pub woken : Hub → ℕ → PartySlot → Hub
woken h q s = with_slots (write_slot h.slots q s) h

-- The tidying.
abbrev pub ring_of : Hub → Ring
ring_of h = record { resumed = h.control.figures.resumed; oldest = h.control.oldest; places = h.places }

abbrev pub with_ring : Hub → Ring → Hub
with_ring h r = with_parts (with_resumed r.resumed h.control.figures) r.oldest r.places h.slots h.control.pool h

unfoldable pub tidied : Hub → Hub
tidied h = with_ring h (reclaimed (ring_of h))

-- What a move answers.
abbrev pub answer_of : Move → Answer
answer_of (Refuse r) = Answer.Refused r
answer_of (Tell y) = y
answer_of (Act c) = c.answer
answer_of (Put a c) = c.answer
answer_of (Wake q s a c) = c.answer

-- The record that it leaves, but for the radios. A refusal leaves it as it was, and so do 37 and 39; all
-- else ends with the tidying.
unfoldable pub apply : Hub → Sight → Move → Hub
apply h s (Refuse r) = h
apply h s (Tell y) = h
apply h s (Act c) = tidied (acted h s.party c)
apply h s (Put a c) = tidied (acted (placed h s.slot.phase a) s.party c)
apply h s (Wake q x a c) =
    tidied (acted (placed (woken h q x) s.slot.phase a) s.party c)

-- What a call answers, and the record that it leaves.
abbrev pub called : Hub → Call → Outcome
called h c =
    let m = move_of h c in
    record {
      answer = answer_of m;
      hub =
          with_pool (pool_after h.control.opening.named (printed (answer_of m)) c.party h.control.pool)
          (apply h (look h c.party) m);
    }
