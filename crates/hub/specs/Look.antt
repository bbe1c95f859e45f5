-- What a call of a party looks at, whatever keeps the places.
use Rattle.std.specs.Prelude.{ℕ, Bool, leb}
use Rattle.hub.specs.declared.moves.Sight.{Sight}
use Rattle.hub.specs.declared.opening.Opening.{Opening}
use Rattle.hub.specs.declared.record.Figures.{Figures}
use Rattle.hub.specs.declared.record.Hub.{Hub}
use Rattle.hub.specs.declared.record.PartySlot.{PartySlot}
use Rattle.hub.specs.declared.record.PlaceSlot.{PlaceSlot}
use Rattle.hub.specs.declared.record.Pool.{Pool}
use Rattle.hub.specs.Kinds.{kind_in}
use Rattle.hub.specs.Phases.{by_ticket, by_waiter}
use Rattle.hub.specs.Radios.{hand_of}
use Rattle.hub.specs.Record.{empty_seat, free_slot, read_slot}
use Rattle.hub.specs.Ring.{read_seat}

-- A sight of these values.
abbrev pub sight_from : ℕ → ℕ → PartySlot → PlaceSlot → PartySlot → Figures → Bool → ℕ → Bool → Sight
sight_from party kind slot seat waiter figures named radio stocked =
    record {
      party = party;
      kind = kind;
      slot = slot;
      seat = seat;
      waiter = waiter;
      figures = figures;
      named = named;
      radio = radio;
      stocked = stocked;
    }

-- What party p sees of a hub, with this slot, place and waiter.
abbrev pub sight_on : Figures → Opening → Pool → ℕ → PartySlot → PlaceSlot → PartySlot → Sight
sight_on f o q p x a w = sight_from p (kind_in o.kinds p) x a w f o.named (hand_of q p) (leb 1 q.stored)

-- Where these functions read the slots and the places.
unfoldable pub seen_by : (ℕ → PartySlot) → (ℕ → PlaceSlot) → Figures → Opening → Pool → ℕ → Sight
seen_by slot seat f o q p =
    let a = by_ticket empty_seat seat (slot p).phase in
    sight_on f o q p (slot p) a (by_waiter free_slot slot a.place)

abbrev pub look : Hub → ℕ → Sight
look h = seen_by (read_slot h.slots) (read_seat h.places) h.control.figures h.control.opening h.control.pool

-- A sight of a party of another kind; of a hub with radios or without; with another place and another waiter.
abbrev pub with_kind : ℕ → Sight → Sight
with_kind k s =
    sight_from s.party k s.slot s.seat s.waiter s.figures s.named s.radio s.stocked

abbrev pub with_named : Bool → Sight → Sight
with_named b s =
    sight_from s.party s.kind s.slot s.seat s.waiter s.figures b s.radio s.stocked

abbrev pub with_view : PlaceSlot → PartySlot → Sight → Sight
with_view a w s =
    sight_from s.party s.kind s.slot a w s.figures s.named s.radio s.stocked
