-- A record that fits, clause by clause: as at the hub, with the latch's own counters, and holding does not fit.
use Rattle.std.specs.Prelude.{ℕ, ◌+◌, Bool, true, not, ◌&&◌, ◌||◌, List, [], ◌∷◌, leb, ltb}
use Rattle.hub.specs.declared.record.Phase.{Phase}
use Rattle.hub.specs.declared.record.Phase.TheVariants.{Holding, Waiting, Suspending, Ticketed, Aborting}
use Rattle.hub.specs.declared.record.Phase.TheVariants.{Cancelling, Refusing, Resuming, ResumingAt}
use Rattle.hub.specs.declared.record.Phase.TheVariants.{SuspendingMarked, TicketedMarked}
use Rattle.hub.specs.Basics.{all_from, all_of, implies, up_to32}
use Rattle.hub.specs.Fits.{in_window, place_listed, stands_at}
use Rattle.hub.specs.Phases.{RADIO_PHASES, by_waiter, is_free, is_one_of, resumes, ticket_of}
use Rattle.hub.specs.Record.{PARTIES, MAX_BEGUN}
use Rattle.hub.specs.Ring.{PLACES, read_place}
use Rattle.latch.specs.declared.record.Latch.{Latch}
use Rattle.latch.specs.declared.record.LatchFigures.{LatchFigures}
use Rattle.latch.specs.declared.record.LatchSlot.{LatchSlot}
use Rattle.latch.specs.Look.{look}
use Rattle.latch.specs.Opening.{MAX_COUNT}
use Rattle.latch.specs.Record.{read_slot}

-- Parties n, the figures and the oldest ticket o that has a place, clause by clause.
abbrev pub figures_clauses : ℕ → LatchFigures → ℕ → List Bool
figures_clauses n f o =
    up_to32 n
    ∷ leb f.count MAX_COUNT
    ∷ leb f.waiters PARTIES
    ∷ leb f.begun MAX_BEGUN
    ∷ leb f.issued MAX_BEGUN
    ∷ leb f.resumed MAX_BEGUN
    ∷ leb o f.issued
    ∷ leb o f.resumed
    ∷ leb f.issued (o + PLACES)
    ∷ leb f.resumed (o + PLACES)
    ∷ []

unfoldable pub figures_fit : ℕ → LatchFigures → ℕ → Bool
figures_fit n f o = all_of (figures_clauses n f o)

-- A party's ticket is one of the 256, below the next to resume if handing, else below the next
-- issued. Drawing one needs room. Raising, as asked, draws none yet.
unfoldable pub ticket_fits : LatchFigures → ℕ → Phase → Bool
ticket_fits f o x =
    all_of
    (implies
    (is_one_of
    (Ticketed 0 ∷ TicketedMarked 0 ∷ Waiting 0 ∷ Aborting 0 ∷ Cancelling 0 ∷ Refusing 0 ∷ []) x)
    (in_window o f.issued (ticket_of x))
    ∷ implies (is_one_of (ResumingAt 0 ∷ []) x) (in_window o f.resumed (ticket_of x))
    ∷ implies (is_one_of (Suspending ∷ SuspendingMarked ∷ []) x) (ltb f.issued (o + PLACES))
    ∷ implies (is_one_of (Resuming ∷ []) x) (ltb f.resumed (o + PLACES))
    ∷ [])

-- At a latch nobody holds, and nobody is at a radio.
abbrev pub HUB_ONLY : List Phase
HUB_ONLY = Holding ∷ RADIO_PHASES

-- Whoever carries or hands has 1 to 32 hand-overs left.
unfoldable pub slot_fits : LatchSlot → Bool
slot_fits s =
    not (is_one_of HUB_ONLY s.phase)
    && implies (resumes s.phase) (up_to32 s.left)

-- Parties from n up are free; slots and tickets fit; places are listed.
unfoldable pub party_fits : Latch → ℕ → Bool
party_fits h p =
    let s = read_slot h.slots p in
    (ltb p h.parties || is_free s.phase) && slot_fits s
    && ticket_fits h.figures h.oldest s.phase
    && place_listed s.phase (look h p).seat.place

-- The party of a waiting place stands there, with that ticket.
unfoldable pub place_fits : Latch → ℕ → Bool
place_fits h t =
    by_waiter true (λ q. stands_at (read_slot h.slots q).phase t) (read_place h.places t)

-- All 32 parties, and the places of all 256 tickets.
unfoldable pub fits : Latch → Bool
fits h =
    figures_fit h.parties h.figures h.oldest && all_from (party_fits h) 0 PARTIES
    && all_from (place_fits h) h.oldest PLACES
