-- What the record and its slots are made of, and how a party's slot is read and written.
use Rattle.std.specs.Prelude.{ℕ, zero, suc, true, false, List, map, get_or, set}
use Rattle.hub.specs.declared.record.Phase.{Phase}
use Rattle.hub.specs.declared.record.PlaceSlot.{PlaceSlot}
use Rattle.latch.specs.declared.record.Latch.{Latch}
use Rattle.latch.specs.declared.record.LatchFigures.{LatchFigures}
use Rattle.latch.specs.declared.record.LatchSlot.{LatchSlot}

-- A slot whose party neither raises nor has a hand-over left; raising, with a mark or without; with h hand-overs left.
abbrev pub in_phase : Phase → LatchSlot
in_phase x = record { phase = x; raising = false; left = 0 }

abbrev pub to_raise : Phase → LatchSlot
to_raise x = record { phase = x; raising = true; left = 0 }

abbrev pub with_left : Phase → ℕ → LatchSlot
with_left x h = record { phase = x; raising = false; left = h }

-- The phase alone changes.
abbrev pub with_phase : Phase → LatchSlot → LatchSlot
with_phase x s = record { phase = x; raising = s.raising; left = s.left }

-- A slot at an opening.
abbrev pub free_slot : LatchSlot
free_slot = in_phase Phase.Free

-- Carrying while hand-overs are left, else free.
abbrev pub carry_on : ℕ → LatchSlot
carry_on zero = free_slot
carry_on (suc h) = with_left Phase.Resuming (suc h)

-- A number past the 32 slots reads as free, and writing there changes nothing.
unfoldable pub read_slot : List LatchSlot → ℕ → LatchSlot
read_slot l p = get_or l p free_slot

unfoldable pub write_slot : List LatchSlot → ℕ → LatchSlot → List LatchSlot
write_slot l p s = set l p s

-- Everybody's phase, in the order of the parties.
abbrev pub phases_of : List LatchSlot → List Phase
phases_of l = map (λ s. s.phase) l

-- A record of these fields.
abbrev pub of_fields : ℕ → LatchFigures → ℕ → List PlaceSlot → List LatchSlot → Latch
of_fields parties figures oldest places slots =
    record {
      parties = parties;
      figures = figures;
      oldest = oldest;
      places = places;
      slots = slots;
    }

-- The record with all that a call may change; with other figures, places or slots, and all else as it was.
abbrev pub with_parts : LatchFigures → ℕ → List PlaceSlot → List LatchSlot → Latch → Latch
with_parts f o a l h = of_fields h.parties f o a l

abbrev pub with_figures : LatchFigures → Latch → Latch
with_figures f h = with_parts f h.oldest h.places h.slots h

abbrev pub with_places : List PlaceSlot → Latch → Latch
with_places a h = with_parts h.figures h.oldest a h.slots h

abbrev pub with_slots : List LatchSlot → Latch → Latch
with_slots l h = with_parts h.figures h.oldest h.places l h
