-- The other way round: every execution of the listings is one of the unbounded queue, with a call at each action that
-- decides a row of the step table and none at the others. So passing cancelled cells at once, as document 01 does,
-- loses no behaviour.
use Rattle.std.specs.Prelude.{ℕ, ◌≤◌, ◌<◌, ◌≡◌, Bool, true, false, cond, not, ◌||◌, List, [], ◌∷◌, ◌++◌, map, ◌⊎◌, eqb, leb, ltb}
use Rattle.hub.specs.declared.answers.Answer.{Answer}
use Rattle.hub.specs.declared.moves.Call.{Call}
use Rattle.hub.specs.declared.moves.Op.{Op}
use Rattle.hub.specs.declared.opening.Opening.{Opening}
use Rattle.hub.specs.declared.record.Phase.{Phase}
use Rattle.hub.specs.declared.record.Phase.TheVariants.{Free, Holding, Waiting, Acquiring}
use Rattle.hub.specs.declared.record.Phase.TheVariants.{Suspending, Ticketed, Aborting}
use Rattle.hub.specs.declared.record.Phase.TheVariants.{Cancelling, Refusing, Releasing}
use Rattle.hub.specs.declared.record.Phase.TheVariants.{Resuming, ResumingAt}
use Rattle.hub.specs.declared.record.Phase.TheVariants.{AcquiringMarked, SuspendingMarked, TicketedMarked}
use Rattle.hub.specs.declared.record.Place.{Place}
use Rattle.hub.specs.Answers.{Printed, printed}
use Rattle.hub.specs.Kinds.{kind_in}
use Rattle.listings.specs.Listings.Machine.{Event, Line, Listing, Request, happen, idle, is_null, is_parked_at}
use Rattle.listings.specs.Listings.Machine.{is_thread_of, play, unparks}
use Rattle.listings.specs.Listings.Machine.{Outside, Inside, Acquire9, Suspend6, Suspend9, Suspend10, Suspend12}
use Rattle.listings.specs.Listings.Machine.{Taking12}
use Rattle.listings.specs.Listings.Machine.{Release16, Resume2, Resume4, Resume7, Resume10, Resume11, Resume19}
use Rattle.listings.specs.Listings.Machine.{Resume26, Resume28, Handler45, Handler55, Cancels, Acts}
use Rattle.listings.specs.Listings.Shown.{is_cancelled_cell, is_cell_of, is_parked, is_refuse}
use Rattle.listings.specs.Listings.Words.{said_at}
use Rattle.hub.specs.Opening.{opening}
use Rattle.hub.specs.Phases.{is_done, is_one_of, is_waiting, ticket_of}
use Rattle.hub.specs.Queue.{Queue, places}
use Rattle.hub.specs.Queue as queue
use Rattle.hub.specs.Record.{MAX_BEGUN, read_slot}
use Rattle.hub.specs.Table.{can_cancel}

abbrev pub call_of : Op → ℕ → List Call
call_of o p = record { op = o; party = p } ∷ []

abbrev pub phase_of : Queue → ℕ → Phase
phase_of m p = (read_slot m.slots p).phase

-- The call, if any, that the next action of thread p decides. The draw and the read of a cell that the queue has
-- passed decide none.
unfoldable pub at_park : Request → ℕ → List Call
at_park Request.Fresh p = []
at_park (Request.Parked j) p = []
at_park Request.Unparked p = []
at_park Request.Aborted p = call_of Op.Step p

unfoldable pub decides : Line → ℕ → Queue → Listing → List Call
decides Outside p m s = call_of Op.Acquire p
decides Inside p m s = call_of Op.Release p
decides Acquire9 p m s = call_of Op.Step p
decides Suspend6 p m s = call_of Op.Step p
decides (Suspend9 i) p m s = call_of Op.Step p
decides (Suspend10 i) p m s = at_park (s.requests p) p
decides (Suspend12 i) p m s = []
decides (Taking12 i) p m s = []
decides Release16 p m s = call_of Op.Step p
decides Resume2 p m s = cond (ltb s.resume_idx m.figures.resumed) [] (call_of Op.Step p)
decides (Resume4 i) p m s =
    cond (is_one_of (Resuming ∷ []) (phase_of m p)) []
    (cond (is_cancelled_cell (s.cells i) || is_refuse (s.cells i)) (call_of Op.Step p) [])
decides (Resume7 i) p m s = cond (is_null (s.cells i)) (call_of Op.Step p) []
decides (Resume10 i q) p m s = cond (unparks q i s) (call_of Op.Step p) []
decides (Resume11 i) p m s = []
decides (Resume19 i q) p m s = cond (is_thread_of q (s.cells i)) (call_of Op.Step p) []
decides (Resume26 i) p m s = []
decides (Resume28 i) p m s = []
decides (Handler45 i) p m s = call_of Op.Step p
decides (Handler55 i) p m s = call_of Op.Step p

-- A cancel() that comes too late is no call.
unfoldable pub calls_at : Event → Queue → Listing → List Call
calls_at (Acts p) m s = decides (s.lines p) p m s
calls_at (Cancels p) m s = cond (can_cancel (phase_of m p)) (call_of Op.Cancel p) []

-- Of an execution: the calls, each on the queue that those before it left; and what the actions say that make one.
unfoldable pub calls : Queue → Listing → List Event → List Call
calls m s [] = []
calls m s (e ∷ es) =
    let cs = calls_at e m s in
    cs ++ calls (queue.run m cs) (happen e s) es

abbrev pub said_for : List Call → List Printed → List Printed
said_for [] a = []
said_for (c ∷ cs) a = a

unfoldable pub decided : Queue → Listing → List Event → List Printed
decided m s [] = []
decided m s (e ∷ es) =
    let cs = calls_at e m s in
    said_for cs (said_at e s) ++ decided (queue.run m cs) (happen e s) es

-- A cell whose row is over, though a thread is still to write its last mark there; a cell that the queue has passed.
pub record RowOver (m : Queue) (s : Listing) (i : ℕ) : Type 0 where
  pub done : places m i ≡ Place.Done
  pub other : is_cancelled_cell (s.cells i) ≡ false

pub record Passed (m : Queue) (s : Listing) (i : ℕ) : Type 0 where
  pub done : places m i ≡ Place.Done
  pub cancelled : is_cancelled_cell (s.cells i) ≡ true

-- Where a party of phase f is whose thread comes to a line with the request g. A thread may be part-way through a
-- row.
abbrev pub Marked : Request → Phase → Phase → Phase → Type 0
Marked Request.Fresh f x y = f ≡ x
Marked (Request.Parked j) f x y = ⊥
Marked Request.Unparked f x y = ⊥
Marked Request.Aborted f x y = f ≡ y

abbrev pub AtPark : Request → Phase → ℕ → Type 0
AtPark Request.Fresh f i = ⊥
AtPark (Request.Parked j) f i = f ≡ Waiting i
AtPark Request.Unparked f i = f ≡ Holding
AtPark Request.Aborted f i = f ≡ Aborting i

abbrev pub Where : Line → Queue → Listing → Phase → Request → Type 0
Where Outside m s f g = f ≡ Free
Where Inside m s f g = f ≡ Holding
Where Acquire9 m s f g = Marked g f Acquiring AcquiringMarked
Where Suspend6 m s f g = Marked g f Suspending SuspendingMarked
Where (Suspend9 i) m s f g = Marked g f (Ticketed i) (TicketedMarked i)
Where (Suspend10 i) m s f g = AtPark g f i
Where (Suspend12 i) m s f g = (f ≡ Holding) × RowOver m s i
Where (Taking12 i) m s f g = (f ≡ Holding) × RowOver m s i
Where Release16 m s f g = f ≡ Releasing
Where Resume2 m s f g = f ≡ Resuming
Where (Resume4 i) m s f g = (f ≡ ResumingAt i) ⊎ ((f ≡ Resuming) × Passed m s i)
Where (Resume7 i) m s f g = f ≡ ResumingAt i
Where (Resume10 i q) m s f g = (f ≡ ResumingAt i) × (is_null (s.cells i) ≡ false)
Where (Resume11 i) m s f g = (f ≡ Free) × RowOver m s i
Where (Resume19 i q) m s f g =
    (f ≡ ResumingAt i) × (is_null (s.cells i) ≡ false) × (unparks q i s ≡ false)
Where (Resume26 i) m s f g = f ≡ Resuming
Where (Resume28 i) m s f g = f ≡ Free
Where (Handler45 i) m s f g = f ≡ Cancelling i
Where (Handler55 i) m s f g = f ≡ Refusing i

-- A request is parked while its party waits, and only then.
abbrev pub park_fits : Phase → Request → Bool
park_fits f g = cond (is_waiting f) (is_parked_at (ticket_of f) g) (not (is_parked g))

-- The queue m follows the listings to the state s.
pub record Follows (m : Queue) (s : Listing) : Type 0 where
  pub counter : s.state ≡ m.figures.counter
  pub issued : s.suspend_idx ≡ m.figures.issued
  pub behind : s.resume_idx ≤ m.figures.resumed
  pub passed : (t : ℕ) → s.resume_idx ≤ t → t < m.figures.resumed → Passed m s t
  pub cells : (t : ℕ) → is_done (places m t) ≡ false → is_cell_of (places m t) (s.cells t) ≡ true
  pub at : (p : ℕ) → Where (s.lines p) m s (phase_of m p) (s.requests p)
  pub parks : (p : ℕ) → park_fits (phase_of m p) (s.requests p) ≡ true

-- Only the opening's parties act, and none of kind 3 is cancelled.
abbrev pub Allowed : Opening → Event → Type 0
Allowed o (Acts p) = p < o.parties
Allowed o (Cancels p) = (p < o.parties) × (eqb (kind_in o.kinds p) 3 ≡ false)

abbrev pub AllAllowed : Opening → List Event → Type 0
AllAllowed o [] = Unit {0}
AllAllowed o (e ∷ es) = Allowed o e × AllAllowed o es

-- As long as 6 is not met.
unfoldable pub Within : Queue → Listing → List Event → Type 0
Within m s [] = Unit {0}
Within m s (e ∷ es) =
    (leb MAX_BEGUN m.figures.begun ≡ false) × Within (queue.run m (calls_at e m s)) (happen e s) es

-- On a hub without radios: the calls come to a queue that follows, and are answered by what the actions say that make
-- them.
unfoldable pub QueueFollows : Type 0
QueueFollows =
    (o : Opening) → (opening o).answer ≡ Answer.Opened → o.named ≡ false → (es : List Event) → AllAllowed o es
    → let m = queue.fresh o in
    let s = idle o.permits in
    Within m s es
    → Follows (queue.run m (calls m s es)) (play es s)
    × (map printed (queue.answers m (calls m s es)) ≡ decided m s es)
