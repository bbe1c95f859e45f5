-- The figures that a ticket is checked by, as the hub has them. Its counter is not among them.
use Rattle.std.specs.Prelude.{ℕ, pos, Bool, ◌&&◌, List}
use Rattle.hub.specs.declared.record.Figures.{Figures}
use Rattle.hub.specs.declared.record.PlaceSlot.{PlaceSlot}
use Rattle.hub.specs.Fits.{place_listed}
use Rattle.hub.specs.Phases.{ticket_of}
use Rattle.hub.specs.Ring.{read_place}
use Rattle.latch.specs.declared.record.LatchFigures.{LatchFigures}
use Rattle.latch.specs.declared.record.LatchSlot.{LatchSlot}
use Rattle.latch.specs.Fits.{slot_fits, ticket_fits}

abbrev pub tickets_of : LatchFigures → Figures
tickets_of f = record { counter = pos 0; issued = f.issued; resumed = f.resumed; begun = f.begun }

-- The clauses of one of the n parties.
abbrev pub member_fits : List PlaceSlot → LatchFigures → ℕ → LatchSlot → Bool
member_fits places f o s =
    slot_fits s && ticket_fits f o s.phase && place_listed s.phase (read_place places (ticket_of s.phase))
