-- What a party sees, from what the code reads.
use Prim.Native.Nat.{ℕ, ◌%◌, ◌≤◌}
use mathlib.Core.Path.{◌≡◌, refl, sym, ap, ◌∙◌}
use mathlib.Core.Bool.{Bool, true, false, cond}
use mathlib.Core.List.{List}
use native.Mathlib.Omega.{arith}
use borrow.Author.Tests.{ltb-true, ltb-false}
use lib.Dec.{ltb}
use lib.ListN.{length, get_or-eq_default}
use Rattle.hub.specs.declared.record.Place.{Place}
use Rattle.hub.specs.declared.record.PlaceSlot.{PlaceSlot}
use Rattle.hub.specs.Kinds.{built_in, kind_in}
use Rattle.hub.specs.Phases.{by_ticket, by_waiter, ticket_of}
use Rattle.hub.specs.Record.{PARTIES, empty_seat}
use Rattle.hub.specs.Ring.{read_seat}
use Rattle.hub.proofs.Laws.Phases.{by-ticket}
use Rattle.latch.specs.declared.moves.LatchSight.{LatchSight}
use Rattle.latch.specs.declared.record.Latch.{Latch}
use Rattle.latch.specs.declared.record.LatchSlot.{LatchSlot}
use Rattle.latch.specs.Look.{look, seen_by}
use Rattle.latch.specs.Record.{free_slot, read_slot}

module _ (l : List LatchSlot) (size : length l ≡ PARTIES) where
  -- Past the slots a slot reads as free.
  past-slots : (q : ℕ) → PARTIES ≤ q → free_slot ≡ read_slot l q
  unfolding read_slot
  past-slots q i = sym (get_or-eq_default l free_slot (omega arith))

  read-within : (q : ℕ) → cond (ltb q PARTIES) (read_slot l (q % PARTIES)) free_slot ≡ read_slot l q
  read-within q = go (ltb q PARTIES) refl
    where
      go : (b : Bool) → ltb q PARTIES ≡ b → cond b (read_slot l (q % PARTIES)) free_slot ≡ read_slot l q
      go true f = ap (read_slot l) (let i = ltb-true q PARTIES f in omega arith)
      go false f = past-slots q (ltb-false q PARTIES f)

  -- The party that waits at a place, by its number.
  by_number : (a : Place)
      → read_slot l (by_waiter PARTIES (λ q. q) a) ≡ by_waiter free_slot (read_slot l) a
  by_number Place.Empty = sym (past-slots PARTIES (omega arith))
  by_number (Place.Waiting q) = refl
  by_number Place.Permit = sym (past-slots PARTIES (omega arith))
  by_number Place.Cancelled = sym (past-slots PARTIES (omega arith))
  by_number Place.Refused = sym (past-slots PARTIES (omega arith))
  by_number Place.Done = sym (past-slots PARTIES (omega arith))

-- The code read the place at the index of the slot's ticket, and the waiter's slot by its number.
pub record Reads (h : Latch) (p : ℕ) (seat : PlaceSlot) (q : ℕ) (waiter : LatchSlot) : Type 0 where
  pub size : length h.slots ≡ PARTIES
  pub place : let s = read_slot h.slots p in
      seat ≡ by_ticket empty_seat (λ t. read_seat h.places (ticket_of s.phase)) s.phase
  pub number : q ≡ by_waiter PARTIES (λ n. n) seat.place
  pub near : waiter ≡ cond (ltb q PARTIES) (read_slot h.slots (q % PARTIES)) free_slot

-- A sight with the kind that the code looked up, and with the kind of the party.
abbrev pub sight_by : ℕ → Latch → ℕ → PlaceSlot → LatchSlot → LatchSight
sight_by k h p seat waiter =
    record {
      party = p;
      kind = k;
      slot = read_slot h.slots p;
      seat = seat;
      waiter = waiter;
      figures = h.figures;
    }

abbrev pub sight_of : Latch → ℕ → PlaceSlot → LatchSlot → LatchSight
sight_of h p seat waiter = sight_by (kind_in built_in p) h p seat waiter

pub looked : (h : Latch) (p : ℕ) (seat : PlaceSlot) (q : ℕ) (waiter : LatchSlot)
    → Reads h p seat q waiter → sight_of h p seat waiter ≡ look h p
unfolding seen_by
looked h p seat q waiter r = λ i.
    record {
      party = p;
      kind = kind_in built_in p;
      slot = read_slot h.slots p;
      seat = place i;
      waiter = (stood ∙ ap (λ (a : PlaceSlot). by_waiter free_slot (read_slot h.slots) a.place) place) i;
      figures = h.figures;
    }
  where
    place : seat ≡ by_ticket empty_seat (read_seat h.places) (read_slot h.slots p).phase
    place =
        let f = (read_slot h.slots p).phase in
        r.place ∙ by-ticket empty_seat (λ t. read_seat h.places (ticket_of f)) f
        ∙ sym (by-ticket empty_seat (read_seat h.places) f)

    stood : waiter ≡ by_waiter free_slot (read_slot h.slots) seat.place
    stood =
        r.near ∙ read-within h.slots r.size q ∙ ap (read_slot h.slots) r.number
        ∙ by_number h.slots r.size seat.place
