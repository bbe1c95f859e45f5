-- What the step table lists for a phase without a ticket.
use Prim.Native.Nat.{ℕ}
use mathlib.Core.Path.{◌≡◌, refl}
use Rattle.hub.specs.declared.record.Phase.{Phase}
use Rattle.hub.specs.declared.record.PlaceSlot.{PlaceSlot}
use Rattle.hub.specs.Basics.{all_of}
use Rattle.hub.specs.Fits.{place_listed}
use Rattle.hub.specs.Phases.{by_ticket, is_one_of, ticket_of}
use Rattle.hub.specs.Record.{empty_seat}
use Rattle.hub.proofs.Laws.Phases.{phases-alike}

-- A phase without a ticket is listed at any place.
pub listed-any : (g : ℕ → PlaceSlot) (f : Phase)
    → place_listed f (g (ticket_of f)).place ≡ place_listed f (by_ticket empty_seat g f).place
unfolding place_listed all_of is_one_of
listed-any g =
    phases-alike (λ f. place_listed f (g (ticket_of f)).place)
    (λ f. place_listed f (by_ticket empty_seat g f).place) (λ t. refl)
