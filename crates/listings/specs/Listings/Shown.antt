-- Which state of the listings a record of the hub shows, and the claim: every schedule of the hub is an execution of
-- them.
use Rattle.std.specs.Prelude.{ℕ, ◌+◌, ◌≤◌, ◌<◌, ◌≡◌, Bool, true, false, cond, not, List, [], ◌∷◌, eqb, leb}
use Rattle.hub.specs.declared.answers.Answer.{Answer}
use Rattle.hub.specs.declared.moves.Call.{Call}
use Rattle.hub.specs.declared.opening.Opening.{Opening}
use Rattle.hub.specs.declared.record.Hub.{Hub}
use Rattle.hub.specs.declared.record.Phase.{Phase}
use Rattle.hub.specs.declared.record.Phase.TheVariants.{Free, Holding, Waiting, Acquiring}
use Rattle.hub.specs.declared.record.Phase.TheVariants.{Suspending, Ticketed, Aborting}
use Rattle.hub.specs.declared.record.Phase.TheVariants.{Cancelling, Refusing, Releasing}
use Rattle.hub.specs.declared.record.Phase.TheVariants.{Resuming, ResumingAt, Fetching, Storing}
use Rattle.hub.specs.declared.record.Phase.TheVariants.{AcquiringMarked, SuspendingMarked, TicketedMarked}
use Rattle.hub.specs.declared.record.Place.{Place}
use Rattle.hub.specs.declared.record.Place.TheVariants as place
use Rattle.listings.specs.Listings.Machine.{Cell, Line, Listing, Request, cell_rank, idle, is_null, is_parked_at}
use Rattle.listings.specs.Listings.Machine.{is_thread_of, play}
use Rattle.listings.specs.Listings.Machine.{Outside, Inside, Acquire9, Suspend6, Suspend9, Suspend10, Release16}
use Rattle.listings.specs.Listings.Machine.{Resume2, Resume4}
use Rattle.listings.specs.Listings.Machine.{Handler45, Handler55}
use Rattle.listings.specs.Listings.Execution.{execution, transcript}
use Rattle.listings.specs.Listings.Words.{told}
use Rattle.hub.specs.Opening.{opening}
use Rattle.hub.specs.Phases.{is_one_of, is_waiting, ticket_of}
use Rattle.hub.specs.Record.{read_slot}
use Rattle.hub.specs.Ring.{PLACES, read_seat}
use Rattle.hub.specs.Schedule.{entries, run}
use Rattle.hub.specs.Table.{can_cancel}

-- Where a party's thread is. A radio is fetched and stored outside of the semaphore.
abbrev pub line_of : Phase → Line
line_of =
    elim [
      | Free ↦ Outside
      | Holding ↦ Inside
      | Waiting t ↦ Suspend10 t
      | Acquiring ↦ Acquire9
      | Suspending ↦ Suspend6
      | Ticketed t ↦ Suspend9 t
      | Aborting t ↦ Suspend10 t
      | Cancelling t ↦ Handler45 t
      | Refusing t ↦ Handler55 t
      | Releasing ↦ Release16
      | Resuming ↦ Resume2
      | ResumingAt t ↦ Resume4 t
      | Fetching ↦ Inside
      | Storing ↦ Outside
      | AcquiringMarked ↦ Acquire9
      | SuspendingMarked ↦ Suspend6
      | TicketedMarked t ↦ Suspend9 t
    ]

-- Its request: parked while the party waits, and only then; aborted by a give-up, marked or not; fresh on the way to
-- a wait.
abbrev pub is_fresh : Request → Bool
is_fresh =
    elim [ Request.Fresh ↦ true | Request.Parked j ↦ false | Request.Unparked ↦ false | Request.Aborted ↦ false ]

abbrev pub is_parked : Request → Bool
is_parked =
    elim [ Request.Fresh ↦ false | Request.Parked j ↦ true | Request.Unparked ↦ false | Request.Aborted ↦ false ]

abbrev pub is_aborted : Request → Bool
is_aborted =
    elim [ Request.Fresh ↦ false | Request.Parked j ↦ false | Request.Unparked ↦ false | Request.Aborted ↦ true ]

abbrev pub GAVE_UP : List Phase
GAVE_UP = Aborting 0 ∷ AcquiringMarked ∷ SuspendingMarked ∷ TicketedMarked 0 ∷ []

unfoldable pub request_fits : Phase → Request → Bool
request_fits f g =
    cond (is_waiting f) (is_parked_at (ticket_of f) g)
    (cond (is_one_of GAVE_UP f) (is_aborted g) (cond (can_cancel f) (is_fresh g) (not (is_parked g))))

-- A place and its cell. A place that is done has a cell with any last mark.
abbrev pub is_value : Cell → Bool
is_value c = eqb (cell_rank c) 2

abbrev pub is_last_mark : Cell → Bool
is_last_mark c = leb 3 (cell_rank c)

abbrev pub is_cancelled_cell : Cell → Bool
is_cancelled_cell c = eqb (cell_rank c) 5

abbrev pub is_refuse : Cell → Bool
is_refuse c = eqb (cell_rank c) 6

abbrev pub is_cell_of : Place → Cell → Bool
is_cell_of =
    elim [
      | place.Empty ↦ is_null
      | place.Waiting q ↦ is_thread_of q
      | place.Permit ↦ is_value
      | place.Cancelled ↦ is_cancelled_cell
      | place.Refused ↦ is_refuse
      | place.Done ↦ is_last_mark
    ]

-- The record h shows the state s. resumeIdx alone may differ: it lags behind the next ticket to resume, over
-- cancelled cells.
pub record ShowsListing (h : Hub) (s : Listing) : Type 0 where
  pub state : s.state ≡ h.control.figures.counter
  pub suspend_idx : s.suspend_idx ≡ h.control.figures.issued
  pub resume_idx : s.resume_idx ≤ h.control.figures.resumed
  pub passed : (t : ℕ) → s.resume_idx ≤ t → t < h.control.figures.resumed
      → is_cancelled_cell (s.cells t) ≡ true
  -- cells before the 256 places, in them, and beyond
  pub before : (t : ℕ) → t < h.control.oldest → is_last_mark (s.cells t) ≡ true
  pub within : (t : ℕ) → h.control.oldest ≤ t → t < h.control.oldest + PLACES
      → is_cell_of (read_seat h.places t).place (s.cells t) ≡ true
  pub beyond : (t : ℕ) → h.control.oldest + PLACES ≤ t → is_null (s.cells t) ≡ true
  pub lines : (p : ℕ) → s.lines p ≡ line_of (read_slot h.slots p).phase
  pub requests : (p : ℕ) → request_fits (read_slot h.slots p).phase (s.requests p) ≡ true

-- From an accepted opening, whatever the calls: the actions that the answers stand for come to a state that the
-- record shows, and say the answers, in order.
unfoldable pub HubExecutes : Type 0
HubExecutes =
    (o : Opening) → (opening o).answer ≡ Answer.Opened → (cs : List Call)
    → let h = (opening o).hub in
    let s = idle o.permits in
    let xs = entries h cs in
    ShowsListing (run h cs) (play (execution xs s) s) × (told (execution xs s) s ≡ transcript xs s)
