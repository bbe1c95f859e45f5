-- What is asked of a phase and of a place.
use Rattle.std.specs.Prelude.{ℕ, Bool, List, [], ◌∷◌, map}
use Rattle.hub.specs.declared.record.Phase.{Phase}
use Rattle.hub.specs.declared.record.Phase.TheVariants.{Free, Holding, Waiting, Acquiring}
use Rattle.hub.specs.declared.record.Phase.TheVariants.{Suspending, Ticketed, Aborting}
use Rattle.hub.specs.declared.record.Phase.TheVariants.{Cancelling, Refusing, Releasing}
use Rattle.hub.specs.declared.record.Phase.TheVariants.{Resuming, ResumingAt, Fetching, Storing}
use Rattle.hub.specs.declared.record.Phase.TheVariants.{AcquiringMarked, SuspendingMarked, TicketedMarked}
use Rattle.hub.specs.declared.record.Place.{Place}
use Rattle.hub.specs.declared.record.Place.TheVariants.{Empty, Waiting as WaitedBy, Permit}
use Rattle.hub.specs.declared.record.Place.TheVariants.{Cancelled, Refused, Done}
use Rattle.hub.specs.Basics.{among}

-- What f makes of a phase's ticket; z for a phase that has none.
abbrev pub by_ticket : {A : Type 0} → A → (ℕ → A) → Phase → A
by_ticket z f =
    elim [
      | Free ↦ z
      | Holding ↦ z
      | Waiting t ↦ f t
      | Acquiring ↦ z
      | Suspending ↦ z
      | Ticketed t ↦ f t
      | Aborting t ↦ f t
      | Cancelling t ↦ f t
      | Refusing t ↦ f t
      | Releasing ↦ z
      | Resuming ↦ z
      | ResumingAt t ↦ f t
      | Fetching ↦ z
      | Storing ↦ z
      | AcquiringMarked ↦ z
      | SuspendingMarked ↦ z
      | TicketedMarked t ↦ f t
    ]

-- A phase's ticket; 0 for a phase that has none.
abbrev pub ticket_of : Phase → ℕ
ticket_of = by_ticket 0 (λ t. t)

-- The index of a phase in the list of phases.
abbrev pub rank : Phase → ℕ
rank =
    elim [
      | Free ↦ 0
      | Holding ↦ 1
      | Waiting t ↦ 2
      | Acquiring ↦ 3
      | Suspending ↦ 4
      | Ticketed t ↦ 5
      | Aborting t ↦ 6
      | Cancelling t ↦ 7
      | Refusing t ↦ 8
      | Releasing ↦ 9
      | Resuming ↦ 10
      | ResumingAt t ↦ 11
      | Fetching ↦ 12
      | Storing ↦ 13
      | AcquiringMarked ↦ 14
      | SuspendingMarked ↦ 15
      | TicketedMarked t ↦ 16
    ]

-- Is a phase one of a list, whatever the tickets?
unfoldable pub is_one_of : List Phase → Phase → Bool
is_one_of l f = among (map rank l) (rank f)

abbrev pub is_free : Phase → Bool
is_free = is_one_of (Free ∷ [])

abbrev pub is_holding : Phase → Bool
is_holding = is_one_of (Holding ∷ [])

abbrev pub is_waiting : Phase → Bool
is_waiting = is_one_of (Waiting 0 ∷ [])

-- Waiting, giving up, cancelling or refusing: its place is, or was, waiting with it.
abbrev pub stands : Phase → Bool
stands = is_one_of (Waiting 0 ∷ Aborting 0 ∷ Cancelling 0 ∷ Refusing 0 ∷ [])

abbrev pub RESTING : List Phase
RESTING = Free ∷ Holding ∷ Waiting 0 ∷ []

abbrev pub at_rest : Phase → Bool
at_rest = is_one_of RESTING

-- A party holds a permit in phases holding, giving back and fetching.
abbrev pub holds : Phase → Bool
holds = is_one_of (Holding ∷ Releasing ∷ Fetching ∷ [])

-- And has a radio, on a hub with radios, in these.
abbrev pub WITH_RADIO : List Phase
WITH_RADIO = Holding ∷ Releasing ∷ Storing ∷ Resuming ∷ ResumingAt 0 ∷ []

abbrev pub has_radio : Phase → Bool
has_radio = is_one_of WITH_RADIO

-- Fetching and putting back are phases of a hub with radios alone.
abbrev pub RADIO_PHASES : List Phase
RADIO_PHASES = Fetching ∷ Storing ∷ []

abbrev pub of_radios : Phase → Bool
of_radios = is_one_of RADIO_PHASES

-- Asked or unnumbered: it may yet draw a ticket.
abbrev pub draws_ticket : Phase → Bool
draws_ticket = is_one_of (Acquiring ∷ Suspending ∷ AcquiringMarked ∷ SuspendingMarked ∷ [])

-- Given up early: asked, unnumbered or numbered, with a mark. A mark is in these phases only.
abbrev pub is_marked : Phase → Bool
is_marked = is_one_of (AcquiringMarked ∷ SuspendingMarked ∷ TicketedMarked 0 ∷ [])

-- Unnumbered, numbered, waiting or giving up: its wait is neither served nor taken out at the counter.
abbrev pub is_unserved : Phase → Bool
is_unserved =
    is_one_of
    (Suspending ∷ Ticketed 0 ∷ Waiting 0 ∷ Aborting 0 ∷ SuspendingMarked ∷ TicketedMarked 0 ∷ [])

-- Carrying or handing: it has a permit for a waiter.
abbrev pub resumes : Phase → Bool
resumes = is_one_of (Resuming ∷ ResumingAt 0 ∷ [])

abbrev pub refuses : Phase → Bool
refuses = is_one_of (Refusing 0 ∷ [])

-- What f makes of the party that waits at a place; z where none does.
abbrev pub by_waiter : {A : Type 0} → A → (ℕ → A) → Place → A
by_waiter z f =
    elim [
      | Empty ↦ z
      | WaitedBy q ↦ f q
      | Permit ↦ z
      | Cancelled ↦ z
      | Refused ↦ z
      | Done ↦ z
    ]

-- The index of a state in the list of states.
abbrev pub place_rank : Place → ℕ
place_rank =
    elim [ Empty ↦ 0 | WaitedBy q ↦ 1 | Permit ↦ 2 | Cancelled ↦ 3 | Refused ↦ 4 | Done ↦ 5 ]

-- Is a place in one of a list of states, whoever waits there?
unfoldable pub is_place_of : List Place → Place → Bool
is_place_of l a = among (map place_rank l) (place_rank a)

abbrev pub is_permit : Place → Bool
is_permit = is_place_of (Permit ∷ [])

abbrev pub is_cancelled : Place → Bool
is_cancelled = is_place_of (Cancelled ∷ [])

abbrev pub is_refused : Place → Bool
is_refused = is_place_of (Refused ∷ [])

abbrev pub is_done : Place → Bool
is_done = is_place_of (Done ∷ [])
