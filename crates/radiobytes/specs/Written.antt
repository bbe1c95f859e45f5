-- The radios of a record as bytes. A radio is written only where one is, and the store in order.
use Rattle.std.specs.Prelude.{ℕ, ◌+◌, ◌%◌, cond, List, [], ◌∷◌, ◌++◌, ltb, get_or, replicate}
use Rattle.hub.specs.declared.opening.Opening.{Opening}
use Rattle.hub.specs.declared.record.PartySlot.{PartySlot}
use Rattle.hub.specs.declared.record.PlaceSlot.{PlaceSlot}
use Rattle.hub.specs.declared.record.Pool.{Pool}
use Rattle.hub.specs.Phases.{has_radio, is_permit}
use Rattle.hub.specs.Radios.{STORE}
use Rattle.hub.specs.Record.{PARTIES, empty_seat, free_slot}
use Rattle.hub.specs.Ring.{PLACES}
use Rattle.cells.specs.Bytes.{each}

-- The radio with each party that has one, and at each place where a permit lies.
abbrev pub hands_shown : List PartySlot → List ℕ → List ℕ
hands_shown l hands = each PARTIES (λ p. cond (has_radio (get_or l p free_slot).phase) (get_or hands p 0) 0)

abbrev pub laid_shown : List PlaceSlot → List ℕ → List ℕ
laid_shown l laid = each PLACES (λ i. cond (is_permit (get_or l i empty_seat).place) (get_or laid i 0) 0)

-- The stored radios, the first to be taken first.
abbrev pub in_order : List ℕ → ℕ → ℕ → List ℕ
in_order ring first stored = each STORE (λ i. cond (ltb i stored) (get_or ring ((first % 32 + i) % 32) 0) 0)

-- All about radios, 355 bytes; 0 throughout on a hub that has none. How far the store is turned is written as 0.
abbrev pub radio_bytes : Opening → List PartySlot → List PlaceSlot → Pool → List ℕ
radio_bytes o l m q =
    cond o.named
    ((1 ∷ [])
    ++ o.radios
    ++ hands_shown l q.hands
    ++ laid_shown m q.laid
    ++ (0 ∷ q.stored % 256 ∷ [])
    ++ in_order q.store q.first q.stored)
    (replicate 355 0)
