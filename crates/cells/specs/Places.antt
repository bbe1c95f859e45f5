-- A place as five bytes: its state, and the party that waits there as a number; 0 where none does.
use Rattle.std.specs.Prelude.{ℕ, ◌+◌, ◌*◌, ◌%◌, List, [], ◌∷◌, get_or}
use Rattle.hub.specs.declared.record.Place.{Place}
use Rattle.hub.specs.declared.record.PlaceSlot.{PlaceSlot}
use Rattle.hub.specs.Phases.{by_waiter, place_rank}
use Rattle.hub.specs.Record.{empty_seat, with_place}
use Rattle.hub.specs.Ring.{PLACES}
use Rattle.cells.specs.Bytes.{bytes_of_all, each, four_of, number_at}

-- The states in the order of their names. A name counts modulo 6, a party modulo 256.
abbrev pub place_named : ℕ → ℕ → Place
place_named name q =
    get_or (Place.Empty ∷ Place.Waiting (q % 256) ∷ Place.Permit ∷ Place.Cancelled ∷ Place.Refused ∷ []) (name % 6)
    Place.Done

abbrev pub waiter_of : Place → ℕ
waiter_of = by_waiter 0 (λ q. q)

-- The place in the five bytes from `at` on.
abbrev pub seat_at : List ℕ → ℕ → PlaceSlot
seat_at b at = with_place (place_named (get_or b at 0) (number_at b (at + 1))) empty_seat

abbrev pub places_at : List ℕ → ℕ → List PlaceSlot
places_at b at = each PLACES (λ i. seat_at b (at + 5 * i))

abbrev pub place_bytes : List PlaceSlot → List ℕ
place_bytes l = bytes_of_all (λ s. place_rank s.place ∷ four_of (waiter_of s.place)) l
