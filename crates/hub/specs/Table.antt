-- "Four calls", and call 14: what each does, decided from what it looks at.
use Rattle.std.specs.Prelude.{ℕ, suc, zero, ◌+◌, Bool, true, false, cond, ◌&&◌, List, [], ◌∷◌, leb, eqb, ℤ, pos, negsuc}
use Rattle.std.proofs.Math.IntN.{suc_ℤ, pred_ℤ}
use Rattle.hub.specs.declared.answers.Answer.{Answer}
use Rattle.hub.specs.declared.answers.Answer.TheVariants.{Accepted, Acquired, MustWait}
use Rattle.hub.specs.declared.answers.Answer.TheVariants.{DrewTicket, Parked, TookPermit}
use Rattle.hub.specs.declared.answers.Answer.TheVariants.{Returned, MustResume, StartedResume}
use Rattle.hub.specs.declared.answers.Answer.TheVariants.{LeftPermit, Woke, Delegated, Skipped}
use Rattle.hub.specs.declared.answers.Answer.TheVariants.{ResumeRefused, MustCancel, MustRefuse}
use Rattle.hub.specs.declared.answers.Answer.TheVariants.{MarkedCancelled, PassedOn}
use Rattle.hub.specs.declared.answers.Answer.TheVariants.{MarkedRefused, DroppedPermit}
use Rattle.hub.specs.declared.answers.Answer.TheVariants.{Fetched, NotYet, Stored, Radio, NoRadio}
use Rattle.hub.specs.declared.answers.Refusal.TheVariants.{Unfit, NotFree, Exhausted, Full}
use Rattle.hub.specs.declared.answers.Refusal.TheVariants.{AtRest, NotWaiting, NotCancellable}
use Rattle.hub.specs.declared.answers.Refusal.TheVariants.{NotHolding}
use Rattle.hub.specs.Moves.{Change}
use Rattle.hub.specs.Moves.{Move}
use Rattle.hub.specs.Moves.{Refuse, Tell, Act, Put, Wake}
use Rattle.hub.specs.declared.moves.Op.{Op}
use Rattle.hub.specs.declared.moves.Op.TheVariants.{Acquire, Step, Cancel, Release}
use Rattle.hub.specs.declared.moves.Sight.{Sight}
use Rattle.hub.specs.declared.record.Figures.{Figures}
use Rattle.hub.specs.declared.record.Phase.{Phase}
use Rattle.hub.specs.declared.record.Phase.TheVariants.{Free, Holding, Waiting, Acquiring}
use Rattle.hub.specs.declared.record.Phase.TheVariants.{Suspending, Ticketed, Aborting}
use Rattle.hub.specs.declared.record.Phase.TheVariants.{Cancelling, Refusing, Releasing}
use Rattle.hub.specs.declared.record.Phase.TheVariants.{Resuming, ResumingAt, Fetching, Storing}
use Rattle.hub.specs.declared.record.Phase.TheVariants.{AcquiringMarked, SuspendingMarked, TicketedMarked}
use Rattle.hub.specs.declared.record.Place.{Place}
use Rattle.hub.specs.declared.record.Place.TheVariants.{Empty, Waiting as WaitedBy, Permit}
use Rattle.hub.specs.declared.record.Place.TheVariants.{Cancelled, Refused, Done}
use Rattle.hub.specs.Record.{MAX_BEGUN, with_phase, with_place}
use Rattle.hub.specs.Phases.{has_radio, is_free, is_holding, is_one_of, is_waiting, ticket_of}

-- Is the counter above 0? Below 0?
abbrev pub above_zero : ℤ → Bool
above_zero (pos zero) = false
above_zero (pos (suc c)) = true
above_zero (negsuc c) = false

abbrev pub below_zero : ℤ → Bool
below_zero (pos c) = false
below_zero (negsuc c) = true

-- The figures with one of them changed.
abbrev pub with_counter : ℤ → Figures → Figures
with_counter c f =
    record { counter = c; issued = f.issued; resumed = f.resumed; begun = f.begun }

abbrev pub with_issued : ℕ → Figures → Figures
with_issued t f =
    record { counter = f.counter; issued = t; resumed = f.resumed; begun = f.begun }

abbrev pub with_resumed : ℕ → Figures → Figures
with_resumed t f =
    record { counter = f.counter; issued = f.issued; resumed = t; begun = f.begun }

abbrev pub with_begun : ℕ → Figures → Figures
with_begun b f =
    record { counter = f.counter; issued = f.issued; resumed = f.resumed; begun = b }

-- The party's phase becomes x, the figures f, and the answer is y.
abbrev pub change : Phase → Figures → Answer → Sight → Change
change x f y s = record { slot = with_phase x s.slot; figures = f; answer = y }

-- Only its phase changes; the counter too, told of one less or of one more.
abbrev pub turn : Phase → Answer → Sight → Move
turn x y s = Act (change x s.figures y s)

abbrev pub take : Phase → Answer → Sight → Move
take x y s = Act (change x (with_counter (pred_ℤ s.figures.counter) s.figures) y s)

abbrev pub give : Phase → Answer → Sight → Move
give x y s = Act (change x (with_counter (suc_ℤ s.figures.counter) s.figures) y s)

-- Its phase, and the place of its ticket, which becomes a.
abbrev pub put : Place → Phase → Answer → Sight → Move
put a x y s = Put (with_place a s.seat) (change x s.figures y s)

-- The party is free, the place of its ticket done, and the waiter q holding.
abbrev pub wake : ℕ → ℕ → Sight → Move
wake q t s =
    Wake q (with_phase Holding s.waiter) (with_place Done s.seat)
    (change Free s.figures (Woke q t) s)

-- The step table, a phase after the other. Three rows are told what comes next, since a mark goes along.
-- Where the table lists no such place the record does not
-- fit, and is refused by 1 before.

-- With a permit of its own; having given one back. On a hub with radios there is one step more to each.
abbrev pub with_permit : Bool → Phase
with_permit named = cond named Fetching Holding

abbrev pub without_permit : Bool → Phase
without_permit named = cond named Storing Free

-- asked: was the counter above 0? 21, and a mark is forgotten; 22
unfoldable pub step_acquiring : Phase → Bool → Sight → Move
step_acquiring x true s = take (with_permit s.named) Acquired s
step_acquiring x false s = take x MustWait s

-- unnumbered: 23
unfoldable pub step_suspending : (ℕ → Phase) → Sight → Move
step_suspending x s =
    let t = s.figures.issued in
    Act (change (x t) (with_issued (t + 1) s.figures) (DrewTicket t) s)

-- numbered: 24; a permit came before the waiter, 25, and a mark is forgotten
unfoldable pub step_ticketed : Phase → ℕ → Place → Sight → Move
step_ticketed x t Empty s = put (WaitedBy s.party) x (Parked t) s
step_ticketed x t Permit s = put Done Holding (TookPermit t) s
step_ticketed x t (WaitedBy q) s = Refuse Unfit
step_ticketed x t Cancelled s = Refuse Unfit
step_ticketed x t Refused s = Refuse Unfit
step_ticketed x t Done s = Refuse Unfit

-- giving back: was the counter below 0? 27, 26
unfoldable pub step_releasing : Bool → Sight → Move
step_releasing true s = give Resuming MustResume s
step_releasing false s = give (without_permit s.named) Returned s

-- carrying: 28
unfoldable pub step_resuming : Sight → Move
step_resuming s =
    let t = s.figures.resumed in
    Act (change (ResumingAt t) (with_resumed (t + 1) s.figures) (StartedResume t) s)

-- handing, at a place where q waits: is q's phase waiting? 2A; q gives up meanwhile, 2B
unfoldable pub resume_waiter : Bool → ℕ → ℕ → Sight → Move
resume_waiter true q t s = wake q t s
resume_waiter false q t s = put Permit Free (Delegated t) s

-- handing: the waiter is still to come, 29; the wait was cancelled, 2C; it was refused, 2D; where a party waits, is its
-- phase waiting?
unfoldable pub step_resuming_at : ℕ → Bool → Place → Sight → Move
step_resuming_at t b Empty s = put Permit Free (LeftPermit t) s
step_resuming_at t b (WaitedBy q) s = resume_waiter b q t s
step_resuming_at t b Cancelled s = put Done Resuming (Skipped t) s
step_resuming_at t b Refused s = put Done Free (ResumeRefused t) s
step_resuming_at t b Permit s = Refuse Unfit
step_resuming_at t b Done s = Refuse Unfit

-- giving up: was the counter below 0? 2E, 2F
unfoldable pub step_aborting : ℕ → Bool → Sight → Move
step_aborting t true s = give (Cancelling t) MustCancel s
step_aborting t false s = give (Refusing t) MustRefuse s

-- cancelling: 30; a permit came meanwhile, 31
unfoldable pub step_cancelling : ℕ → Place → Sight → Move
step_cancelling t (WaitedBy q) s = put Cancelled Free (MarkedCancelled t) s
step_cancelling t Permit s = put Done Resuming (PassedOn t) s
step_cancelling t Empty s = Refuse Unfit
step_cancelling t Cancelled s = Refuse Unfit
step_cancelling t Refused s = Refuse Unfit
step_cancelling t Done s = Refuse Unfit

-- refusing: 32; the permit that it refuses has come, 33
unfoldable pub step_refusing : ℕ → Place → Sight → Move
step_refusing t (WaitedBy q) s = put Refused Free (MarkedRefused t) s
step_refusing t Permit s = put Done Free (DroppedPermit t) s
step_refusing t Empty s = Refuse Unfit
step_refusing t Cancelled s = Refuse Unfit
step_refusing t Refused s = Refuse Unfit
step_refusing t Done s = Refuse Unfit

-- fetching: is a radio stored? 36, 37
unfoldable pub step_fetching : Bool → Sight → Move
step_fetching true s = turn Holding Fetched s
step_fetching false s = Tell NotYet

-- putting back: 38
unfoldable pub step_storing : Sight → Move
step_storing s = turn Free Stored s

-- What the rows ask of what a call sees, besides the phase.
pub record RowTests : Type 0 where
  pub above : Bool  -- is the counter above 0?
  pub below : Bool  -- is it below 0?
  pub stocked : Bool  -- is a radio stored?
  pub place : Place  -- what lies at the place of the ticket
  pub waits : Bool  -- if a party waits there: is its phase waiting?

abbrev pub row_tests_of : Sight → RowTests
row_tests_of s =
    record {
      above = above_zero s.figures.counter;
      below = below_zero s.figures.counter;
      stocked = s.stocked;
      place = s.seat.place;
      waits = is_waiting s.waiter.phase;
    }

-- The row of a phase, told what its tests say. At rest: 8
unfoldable pub row_in : Phase → RowTests → Sight → Move
row_in Free v s = Refuse AtRest
row_in Holding v s = Refuse AtRest
row_in (Waiting t) v s = Refuse AtRest
row_in Acquiring v s = step_acquiring Suspending v.above s
row_in Suspending v s = step_suspending Ticketed s
row_in (Ticketed t) v s = step_ticketed (Waiting t) t v.place s
row_in (Aborting t) v s = step_aborting t v.below s
row_in (Cancelling t) v s = step_cancelling t v.place s
row_in (Refusing t) v s = step_refusing t v.place s
row_in Releasing v s = step_releasing v.below s
row_in Resuming v s = step_resuming s
row_in (ResumingAt t) v s = step_resuming_at t v.waits v.place s
row_in Fetching v s = step_fetching v.stocked s
row_in Storing v s = step_storing s
row_in AcquiringMarked v s = step_acquiring SuspendingMarked v.above s
row_in SuspendingMarked v s = step_suspending TicketedMarked s
row_in (TicketedMarked t) v s = step_ticketed (Aborting t) t v.place s

abbrev pub step_in : Phase → Sight → Move
step_in f s = row_in f (row_tests_of s) s

abbrev pub step : Sight → Move
step s = step_in s.slot.phase s

-- Ask: is the party free; have 1,000,000 begun; is there no place for one more ticket?
unfoldable pub acquire : Bool → Bool → Bool → Sight → Move
acquire false e full s = Refuse NotFree
acquire true true full s = Refuse Exhausted
acquire true false true s = Refuse Full
acquire true false false s =
    Act (change Acquiring (with_begun (s.figures.begun + 1) s.figures) Accepted s)

-- Can a party of this phase give up: waiting, or on its way there and without a mark?
abbrev pub CAN_CANCEL : List Phase
CAN_CANCEL = Waiting 0 ∷ Acquiring ∷ Suspending ∷ Ticketed 0 ∷ []

abbrev pub can_cancel : Phase → Bool
can_cancel = is_one_of CAN_CANCEL

-- The phase that a give-up leads to: a wait is given up, and before it the give-up is remembered by a mark.
unfoldable pub given_up : Phase → Phase
given_up f =
    cond (is_one_of (Acquiring ∷ []) f) AcquiringMarked
    (cond (is_one_of (Suspending ∷ []) f) SuspendingMarked
    (cond (is_one_of (Ticketed 0 ∷ []) f) (TicketedMarked (ticket_of f)) (Aborting (ticket_of f))))

-- Give up: can the party; is its kind 3; what it leads to.
unfoldable pub cancel : Bool → Bool → Phase → Sight → Move
cancel false k x s = Refuse NotWaiting
cancel true true x s = Refuse NotCancellable
cancel true false x s = turn x Accepted s

-- Give back: is the party holding?
unfoldable pub release : Bool → Sight → Move
release false s = Refuse NotHolding
release true s = turn Releasing Accepted s

-- Which radio: has the party one? 39
unfoldable pub tell_radio : Bool → Sight → Move
tell_radio true s = Tell (Radio s.radio)
tell_radio false s = Tell NoRadio

-- What a call does on a record that fits and has the party. The Bool: is it full (7)?
unfoldable pub decide : Op → Bool → Sight → Move
decide Acquire full s =
    acquire (is_free s.slot.phase) (leb MAX_BEGUN s.figures.begun) full s
decide Step full s = step s
decide Cancel full s =
    cancel (can_cancel s.slot.phase) (eqb s.kind 3) (given_up s.slot.phase) s
decide Release full s = release (is_holding s.slot.phase) s
decide Op.Radio full s = tell_radio (s.named && has_radio s.slot.phase) s
