-- The clauses of one of the n parties, by its phase.
use Rattle.std.specs.Prelude.{ℕ, Bool, ◌&&◌, List}
use Rattle.hub.specs.declared.record.Figures.{Figures}
use Rattle.hub.specs.declared.record.Phase.{Phase}
use Rattle.hub.specs.declared.record.PlaceSlot.{PlaceSlot}
use Rattle.hub.specs.Basics.{implies}
use Rattle.hub.specs.Fits.{place_listed, ticket_fits}
use Rattle.hub.specs.Phases.{of_radios, ticket_of}
use Rattle.hub.specs.Ring.{read_place}

abbrev pub member_fits : List PlaceSlot → Figures → ℕ → Bool → Phase → Bool
member_fits places f o named x =
    ticket_fits f o x && place_listed x (read_place places (ticket_of x)) && implies (of_radios x) named
