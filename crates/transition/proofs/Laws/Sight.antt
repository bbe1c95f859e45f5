-- What a party sees, from what the code reads.
use Prim.Native.Nat.{ℕ, ◌%◌}
use mathlib.Core.Path.{◌≡◌, refl, sym, ap, ◌∙◌}
use mathlib.Core.Bool.{Bool, true, false, cond}
use mathlib.Core.List.{List}
use native.Mathlib.Omega.{arith}
use borrow.Author.Tests.{ltb-true, ltb-false}
use lib.Dec.{ltb}
use lib.ListN.{length}
use Rattle.hub.specs.declared.moves.Sight.{Sight}
use Rattle.hub.specs.declared.record.Hub.{Hub}
use Rattle.hub.specs.declared.record.PartySlot.{PartySlot}
use Rattle.hub.specs.declared.record.Place.{Place}
use Rattle.hub.specs.declared.record.PlaceSlot.{PlaceSlot}
use Rattle.hub.specs.Look.{look, seen_by, sight_on}
use Rattle.hub.specs.Phases.{by_ticket, by_waiter, ticket_of}
use Rattle.hub.specs.Record.{PARTIES, empty_seat, free_slot, read_slot}
use Rattle.hub.specs.Ring.{read_seat}
use Rattle.hub.proofs.Laws.Phases.{by-ticket, places-alike, ticketed}
use Rattle.hub.proofs.Laws.Slots.{past-slots}

module _ (l : List PartySlot) (size : length l ≡ PARTIES) where
  read-within : (q : ℕ) → cond (ltb q PARTIES) (read_slot l (q % PARTIES)) free_slot ≡ read_slot l q
  read-within q = go (ltb q PARTIES) refl
    where
      go : (b : Bool) → ltb q PARTIES ≡ b → cond b (read_slot l (q % PARTIES)) free_slot ≡ read_slot l q
      go true f = ap (read_slot l) (let i = ltb-true q PARTIES f in omega arith)
      go false f = sym (past-slots l size q (ltb-false q PARTIES f))

  -- The party that waits at a place, by its number.
  by_number : (a : Place)
      → read_slot l (by_waiter PARTIES (λ q. q) a) ≡ by_waiter free_slot (read_slot l) a
  by_number =
      places-alike (λ a. read_slot l (by_waiter PARTIES (λ q. q) a)) (by_waiter free_slot (read_slot l))
      (λ q. rw (past-slots l size PARTIES (omega arith)))

-- The code read the place at the index of the slot's ticket, and the waiter's slot by its number.
pub record Reads (h : Hub) (p : ℕ) (seat : PlaceSlot) (q : ℕ) (waiter : PartySlot) : Type 0 where
  pub size : length h.slots ≡ PARTIES
  pub place : seat ≡ read_seat h.places (ticket_of (read_slot h.slots p).phase)
  pub number : q ≡ by_waiter PARTIES (λ n. n) seat.place
  pub near : waiter ≡ cond (ltb q PARTIES) (read_slot h.slots (q % PARTIES)) free_slot

abbrev pub sight_of : Hub → ℕ → PlaceSlot → PartySlot → Sight
sight_of h p = sight_on h.control.figures h.control.opening h.control.pool p (read_slot h.slots p)

-- A party that has a ticket: that is what it looks at.
pub looked : (h : Hub) (p : ℕ) (seat : PlaceSlot) (q : ℕ) (waiter : PartySlot)
    → Reads h p seat q waiter → ticketed (read_slot h.slots p).phase ≡ true
    → sight_of h p seat waiter ≡ look h p
unfolding seen_by
looked h p seat q waiter r has = λ i.
    sight_of h p (place i)
    ((stood ∙ ap (λ (a : PlaceSlot). by_waiter free_slot (read_slot h.slots) a.place) place) i)
  where
    place : seat ≡ by_ticket empty_seat (read_seat h.places) (read_slot h.slots p).phase
    place =
        let f = (read_slot h.slots p).phase in
        let a = read_seat h.places (ticket_of f) in
        r.place
        ∙ sym (by-ticket empty_seat (read_seat h.places) f ∙ ap (λ (b : Bool). cond b a empty_seat) has)

    stood : waiter ≡ by_waiter free_slot (read_slot h.slots) seat.place
    stood =
        r.near ∙ read-within h.slots r.size q ∙ ap (read_slot h.slots) r.number
        ∙ by_number h.slots r.size seat.place
