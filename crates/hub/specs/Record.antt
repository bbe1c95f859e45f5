-- "The hub's record": what it and its slots are made of, and how a party's slot is read and written.
use Rattle.std.specs.Prelude.{ℕ, List, map, get_or, set}
use Rattle.hub.specs.declared.opening.Opening.{Opening}
use Rattle.hub.specs.declared.record.Control.{Control}
use Rattle.hub.specs.declared.record.Figures.{Figures}
use Rattle.hub.specs.declared.record.Hub.{Hub}
use Rattle.hub.specs.declared.record.PartySlot.{PartySlot}
use Rattle.hub.specs.declared.record.Phase.{Phase}
use Rattle.hub.specs.declared.record.Place.{Place}
use Rattle.hub.specs.declared.record.PlaceSlot.{PlaceSlot}
use Rattle.hub.specs.declared.record.Pool.{Pool}

-- How many parties have a slot; how many acquires there may be.
abbrev pub PARTIES : ℕ
PARTIES = 32

abbrev pub MAX_BEGUN : ℕ
MAX_BEGUN = 1000000

-- A slot at an opening; a slot with another phase, and all else as it was.
abbrev pub free_slot : PartySlot
free_slot = record { phase = Phase.Free }

abbrev pub with_phase : Phase → PartySlot → PartySlot
with_phase x s = record { phase = x }

-- The same of a place.
abbrev pub empty_seat : PlaceSlot
empty_seat = record { place = Place.Empty }

abbrev pub with_place : Place → PlaceSlot → PlaceSlot
with_place a s = record { place = a }

-- A number past the 32 slots reads as free, and writing there changes nothing.
unfoldable pub read_slot : List PartySlot → ℕ → PartySlot
read_slot l p = get_or l p free_slot

unfoldable pub write_slot : List PartySlot → ℕ → PartySlot → List PartySlot
write_slot l p s = set l p s

-- Everybody's phase, in the order of the parties.
abbrev pub phases_of : List PartySlot → List Phase
phases_of l = map (λ s. s.phase) l

abbrev pub places_of : List PlaceSlot → List Place
places_of l = map (λ s. s.place) l

-- A control block of these values; a record of these fields.
abbrev pub control_of : Opening → Figures → ℕ → Pool → Control
control_of opening figures oldest pool =
    record { opening = opening; figures = figures; oldest = oldest; pool = pool }

abbrev pub of_fields : List PlaceSlot → List PartySlot → Control → Hub
of_fields places slots control = record { places = places; slots = slots; control = control }

-- The record with all that a call may change; with other figures, places, slots or radios, and all else as it was.
abbrev pub with_parts : Figures → ℕ → List PlaceSlot → List PartySlot → Pool → Hub → Hub
with_parts f o a l q h = of_fields a l (control_of h.control.opening f o q)

abbrev pub with_figures : Figures → Hub → Hub
with_figures f h = with_parts f h.control.oldest h.places h.slots h.control.pool h

abbrev pub with_places : List PlaceSlot → Hub → Hub
with_places a h = of_fields a h.slots h.control

abbrev pub with_slots : List PartySlot → Hub → Hub
with_slots l h = of_fields h.places l h.control

abbrev pub with_pool : Pool → Hub → Hub
with_pool q h = with_parts h.control.figures h.control.oldest h.places h.slots q h
