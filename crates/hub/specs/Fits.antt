-- "A record that fits", clause by clause, for any value of the type.
use Rattle.std.specs.Prelude.{ℕ, ◌+◌, Bool, true, ◌&&◌, ◌||◌, List, [], ◌∷◌, leb, ltb, eqb, ℤ, pos, negsuc}
use Rattle.hub.specs.declared.opening.Opening.{Opening}
use Rattle.hub.specs.declared.record.Figures.{Figures}
use Rattle.hub.specs.declared.record.Hub.{Hub}
use Rattle.hub.specs.declared.record.Phase.{Phase}
use Rattle.hub.specs.declared.record.Phase.TheVariants.{Waiting, Suspending, Ticketed, Aborting}
use Rattle.hub.specs.declared.record.Phase.TheVariants.{Cancelling, Refusing, Resuming, ResumingAt}
use Rattle.hub.specs.declared.record.Phase.TheVariants.{SuspendingMarked, TicketedMarked}
use Rattle.hub.specs.declared.record.Place.{Place}
use Rattle.hub.specs.declared.record.Place.TheVariants.{Empty, Waiting as WaitedBy, Permit}
use Rattle.hub.specs.declared.record.Place.TheVariants.{Cancelled, Refused}
use Rattle.hub.specs.Basics.{all_from, all_of, implies, up_to32}
use Rattle.hub.specs.Look.{look}
use Rattle.hub.specs.Opening.{all_passed, kind_tests, radios_differ}
use Rattle.hub.specs.Phases.{by_waiter, is_free, is_one_of, is_place_of, of_radios, stands, ticket_of}
use Rattle.hub.specs.Radios.{radios_in, radios_of, rearranged}
use Rattle.hub.specs.Record.{PARTIES, MAX_BEGUN, read_slot}
use Rattle.hub.specs.Ring.{PLACES, read_place}

-- −32 to 32.
unfoldable pub counter_fits : ℤ → Bool
counter_fits (pos n) = leb n 32
counter_fits (negsuc n) = ltb n 32

-- K and n, the figures and the oldest ticket o that has a place, clause by clause.
abbrev pub figures_clauses : Opening → Figures → ℕ → List Bool
figures_clauses x f o =
    up_to32 x.permits
    ∷ up_to32 x.parties
    ∷ counter_fits f.counter
    ∷ leb f.begun MAX_BEGUN
    ∷ leb f.issued MAX_BEGUN
    ∷ leb f.resumed MAX_BEGUN
    ∷ leb o f.issued
    ∷ leb o f.resumed
    ∷ leb f.issued (o + PLACES)
    ∷ leb f.resumed (o + PLACES)
    ∷ []

unfoldable pub figures_fit : Opening → Figures → ℕ → Bool
figures_fit x f o = all_of (figures_clauses x f o)

-- Is t one of the 256 tickets from o on, and below e?
unfoldable pub in_window : ℕ → ℕ → ℕ → Bool
in_window o e t = leb o t && ltb t (o + PLACES) && ltb t e

-- A party's ticket is one of the 256, below the next to resume if handing, else below the next
-- issued. Drawing one needs room.
unfoldable pub ticket_fits : Figures → ℕ → Phase → Bool
ticket_fits f o x =
    all_of
    (implies
    (is_one_of
    (Ticketed 0 ∷ TicketedMarked 0 ∷ Waiting 0 ∷ Aborting 0 ∷ Cancelling 0 ∷ Refusing 0 ∷ []) x)
    (in_window o f.issued (ticket_of x))
    ∷ implies (is_one_of (ResumingAt 0 ∷ []) x) (in_window o f.resumed (ticket_of x))
    ∷ implies (is_one_of (Suspending ∷ SuspendingMarked ∷ []) x) (ltb f.issued (o + PLACES))
    ∷ implies (is_one_of (Resuming ∷ []) x) (ltb f.resumed (o + PLACES))
    ∷ [])

-- A place about to be acted on is in a state that the step table lists.
unfoldable pub place_listed : Phase → Place → Bool
place_listed x a =
    all_of
    (implies (is_one_of (Ticketed 0 ∷ TicketedMarked 0 ∷ []) x) (is_place_of (Empty ∷ Permit ∷ []) a)
    ∷ implies (is_one_of (Cancelling 0 ∷ Refusing 0 ∷ []) x) (is_place_of (WaitedBy 0 ∷ Permit ∷ []) a)
    ∷ implies (is_one_of (ResumingAt 0 ∷ []) x)
    (is_place_of (Empty ∷ WaitedBy 0 ∷ Cancelled ∷ Refused ∷ []) a)
    ∷ [])

-- Parties from n up are free; tickets fit; places are listed; two phases fit on a hub with radios alone.
unfoldable pub party_fits : Hub → ℕ → Bool
party_fits h p =
    let f = (read_slot h.slots p).phase in
    (ltb p h.control.opening.parties || is_free f) && ticket_fits h.control.figures h.control.oldest f
    && place_listed f (look h p).seat.place && implies (of_radios f) h.control.opening.named

abbrev pub stands_at : Phase → ℕ → Bool
stands_at f t = stands f && eqb (ticket_of f) t

-- The party of a waiting place stands there, with that ticket.
unfoldable pub place_fits : Hub → ℕ → Bool
place_fits h t =
    by_waiter true (λ q. stands_at (read_slot h.slots q).phase t) (read_place h.places t)

-- On a hub with radios: those of its opening are no two alike, and each of them is with one party, at
-- one place, or stored.
unfoldable pub radios_fit : Hub → Bool
radios_fit h =
    radios_differ h.control.opening
    && implies h.control.opening.named
    (rearranged (radios_in h.slots h.places h.control.pool) (radios_of h.control.opening))

-- A record whose kinds an opening is refused for does not fit.
unfoldable pub kinds_fit : Opening → Bool
kinds_fit o = all_passed (kind_tests o)

-- All but the kinds: K, n and the figures, all 32 parties, the places of all 256 tickets, and the radios.
unfoldable pub state_fits : Hub → Bool
state_fits h =
    figures_fit h.control.opening h.control.figures h.control.oldest && all_from (party_fits h) 0 PARTIES
    && all_from (place_fits h) h.control.oldest PLACES && radios_fit h

unfoldable pub fits : Hub → Bool
fits h = state_fits h && kinds_fit h.control.opening
