-- What a call of a party looks at, whatever keeps the places.
use Rattle.std.specs.Prelude.{ℕ}
use Rattle.hub.specs.declared.record.PlaceSlot.{PlaceSlot}
use Rattle.hub.specs.Kinds.{built_in, kind_in}
use Rattle.hub.specs.Phases.{by_ticket, by_waiter}
use Rattle.hub.specs.Record.{empty_seat}
use Rattle.hub.specs.Ring.{read_seat}
use Rattle.latch.specs.declared.moves.LatchSight.{LatchSight}
use Rattle.latch.specs.declared.record.Latch.{Latch}
use Rattle.latch.specs.declared.record.LatchFigures.{LatchFigures}
use Rattle.latch.specs.declared.record.LatchSlot.{LatchSlot}
use Rattle.latch.specs.Record.{free_slot, read_slot}

-- Party p, where these functions read the slots and the places.
unfoldable pub seen_by : (ℕ → LatchSlot) → (ℕ → PlaceSlot) → LatchFigures → ℕ → LatchSight
seen_by slot seat f p =
    let a = by_ticket empty_seat seat (slot p).phase in
    record {
      party = p;
      kind = kind_in built_in p;
      slot = slot p;
      seat = a;
      waiter = by_waiter free_slot slot a.place;
      figures = f;
    }

abbrev pub look : Latch → ℕ → LatchSight
look h = seen_by (read_slot h.slots) (read_seat h.places) h.figures
