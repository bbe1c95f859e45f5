-- The window: the 256 tickets from the oldest on, each with a place of the ring.
use Rattle.std.specs.Prelude.{ℕ, ◌+◌, ◌-◌, ◌%◌, Bool, true, List, [], ◌∷◌, leb, get_or}
use Rattle.hub.specs.declared.record.Figures.{Figures}
use Rattle.hub.specs.declared.record.Phase.{Phase}
use Rattle.hub.specs.declared.record.Place.{Place}
use Rattle.hub.specs.declared.record.PlaceSlot.{PlaceSlot}
use Rattle.hub.specs.Basics.{all_of}
use Rattle.hub.specs.Fits.{stands_at}
use Rattle.hub.specs.Phases.{by_waiter}
use Rattle.hub.specs.Record.{MAX_BEGUN, empty_seat}
use Rattle.hub.specs.Ring.{PLACES}

-- The ticket of the window whose place is at index i. The window begins at the index of the oldest,
-- and where the ring ends it goes on at index 0.
abbrev pub ticket_at : ℕ → ℕ → ℕ
ticket_at o i = o + (i + PLACES - o % PLACES) % PLACES

-- The figures of tickets that fit, of whichever record.
abbrev pub tickets_fit : Figures → ℕ → Bool
tickets_fit f o =
    all_of
    (leb f.begun MAX_BEGUN
    ∷ leb f.issued MAX_BEGUN
    ∷ leb f.resumed MAX_BEGUN
    ∷ leb o f.issued
    ∷ leb o f.resumed
    ∷ leb f.issued (o + PLACES)
    ∷ leb f.resumed (o + PLACES)
    ∷ [])

-- The clause of the place of ticket t, where these slots are kept: whoever waits there stands there, by that slot's phase.
abbrev pub waiter_fits : {S : Type 0} → (S → Phase) → S → List S → ℕ → Place → Bool
waiter_fits phase nobody slots t = by_waiter true (λ q. stands_at (phase (get_or slots q nobody)) t)

-- The clause of the place at index i.
abbrev pub seat_fits : {S : Type 0} → (S → Phase) → S → List S → List PlaceSlot → ℕ → ℕ → Bool
seat_fits phase nobody slots places o i =
    waiter_fits phase nobody slots (ticket_at o i) (get_or places i empty_seat).place
