-- The calls of a latch: what each does, decided from what it looks at.
use Rattle.std.specs.Prelude.{ℕ, ◌+◌, ◌-◌, Bool, true, false, cond, ◌&&◌, List, [], ◌∷◌, leb, eqb}
use Rattle.hub.specs.declared.answers.Answer.{Answer}
use Rattle.hub.specs.declared.answers.Answer.TheVariants.{Accepted, Acquired, MustWait}
use Rattle.hub.specs.declared.answers.Answer.TheVariants.{DrewTicket, Parked, TookPermit}
use Rattle.hub.specs.declared.answers.Answer.TheVariants.{Returned, MustResume, StartedResume}
use Rattle.hub.specs.declared.answers.Answer.TheVariants.{LeftPermit, Woke, Delegated, Skipped}
use Rattle.hub.specs.declared.answers.Answer.TheVariants.{ResumeRefused, MustCancel, MustRefuse}
use Rattle.hub.specs.declared.answers.Answer.TheVariants.{MarkedCancelled, PassedOn}
use Rattle.hub.specs.declared.answers.Answer.TheVariants.{MarkedRefused, DroppedPermit}
use Rattle.hub.specs.declared.answers.Refusal.TheVariants.{Unfit, NotFree, Exhausted, Full}
use Rattle.hub.specs.declared.answers.Refusal.TheVariants.{AtRest, NotWaiting, NotCancellable}
use Rattle.hub.specs.declared.record.Phase.{Phase}
use Rattle.hub.specs.declared.record.Phase.TheVariants.{Free, Waiting, Acquiring}
use Rattle.hub.specs.declared.record.Phase.TheVariants.{Suspending, Ticketed, Aborting}
use Rattle.hub.specs.declared.record.Phase.TheVariants.{Cancelling, Refusing, Releasing}
use Rattle.hub.specs.declared.record.Phase.TheVariants.{Resuming, ResumingAt}
use Rattle.hub.specs.declared.record.Phase.TheVariants.{AcquiringMarked, SuspendingMarked, TicketedMarked}
use Rattle.hub.specs.declared.record.Place.{Place}
use Rattle.hub.specs.declared.record.Place.TheVariants.{Empty, Waiting as WaitedBy, Permit}
use Rattle.hub.specs.declared.record.Place.TheVariants.{Cancelled, Refused, Done}
use Rattle.hub.specs.Phases.{is_free, is_one_of, is_waiting, ticket_of}
use Rattle.hub.specs.Record.{MAX_BEGUN, with_place}
use Rattle.hub.specs.Table.{can_cancel, given_up}
use Rattle.latch.specs.declared.moves.LatchOp.{LatchOp}
use Rattle.latch.specs.declared.moves.LatchOp.TheVariants.{Await, Step, Cancel, CountDown}
use Rattle.latch.specs.declared.moves.LatchSight.{LatchSight}
use Rattle.latch.specs.declared.record.LatchFigures.{LatchFigures}
use Rattle.latch.specs.declared.record.LatchSlot.{LatchSlot}
use Rattle.latch.specs.Moves.{Move}
use Rattle.latch.specs.Moves.{Refuse, Act, Put, Wake}
use Rattle.latch.specs.Record.{carry_on, free_slot, in_phase, to_raise, with_left, with_phase}

-- The done mark.
abbrev pub done : LatchFigures → Bool
done f = eqb f.count 0

-- The figures with some of them changed.
abbrev pub with_count : ℕ → LatchFigures → LatchFigures
with_count c f =
    record {
      count = c;
      waiters = f.waiters;
      issued = f.issued;
      resumed = f.resumed;
      begun = f.begun;
    }

abbrev pub with_waiters : ℕ → LatchFigures → LatchFigures
with_waiters w f =
    record {
      count = f.count;
      waiters = w;
      issued = f.issued;
      resumed = f.resumed;
      begun = f.begun;
    }

abbrev pub with_issued : ℕ → LatchFigures → LatchFigures
with_issued t f =
    record {
      count = f.count;
      waiters = f.waiters;
      issued = t;
      resumed = f.resumed;
      begun = f.begun;
    }

abbrev pub with_resumed : ℕ → LatchFigures → LatchFigures
with_resumed t f =
    record {
      count = f.count;
      waiters = f.waiters;
      issued = f.issued;
      resumed = t;
      begun = f.begun;
    }

abbrev pub with_begun : ℕ → LatchFigures → LatchFigures
with_begun b f =
    record {
      count = f.count;
      waiters = f.waiters;
      issued = f.issued;
      resumed = f.resumed;
      begun = b;
    }

-- The party's slot becomes x, the figures f, and the answer is y.
abbrev pub act : LatchSlot → LatchFigures → Answer → Move
act x f y = Act (record { slot = x; figures = f; answer = y })

-- Only its slot changes; the place of its ticket becomes a, too.
abbrev pub turn : LatchSlot → Answer → LatchSight → Move
turn x y s = act x s.figures y

abbrev pub put : Place → LatchSlot → Answer → LatchSight → Move
put a x y s =
    Put (with_place a s.seat) (record { slot = x; figures = s.figures; answer = y })

-- The place of its ticket is done, and the waiter q free; the party goes on.
abbrev pub wake : ℕ → ℕ → LatchSlot → LatchSight → Move
wake q t x s =
    Wake q free_slot (with_place Done s.seat)
    (record { slot = x; figures = s.figures; answer = Woke q t })

-- The step table, a phase after the other. Where a mark goes along the row is told what comes next. Where the
-- table lists no such place the record does not fit, and is refused by 1 before.

-- asked, and raising: at the mark? 21, and a mark is forgotten. Else 22: asked is to raise, and raising adds a
-- waiter and is x, unnumbered.
unfoldable pub step_acquiring : Phase → Phase → Bool → Bool → LatchSight → Move
step_acquiring f x true b s = turn free_slot Acquired s
step_acquiring f x false false s = turn (to_raise f) MustWait s
step_acquiring f x false true s =
    act (in_phase x) (with_waiters (s.figures.waiters + 1) s.figures) MustWait

-- unnumbered: 23
unfoldable pub step_suspending : (ℕ → Phase) → LatchSight → Move
step_suspending x s =
    let t = s.figures.issued in
    act (in_phase (x t)) (with_issued (t + 1) s.figures) (DrewTicket t)

-- numbered: 24; a hand-over came before the waiter, 25, and a mark is forgotten
unfoldable pub step_ticketed : Phase → ℕ → Place → LatchSight → Move
step_ticketed x t Empty s = put (WaitedBy s.party) (in_phase x) (Parked t) s
step_ticketed x t Permit s = put Done free_slot (TookPermit t) s
step_ticketed x t (WaitedBy q) s = Refuse Unfit
step_ticketed x t Cancelled s = Refuse Unfit
step_ticketed x t Refused s = Refuse Unfit
step_ticketed x t Done s = Refuse Unfit

-- giving back lowers the count, and at 0 leaves it so. Does it bring the count to 0, with waiters? 27, one
-- hand-over for each; else 26. The waiters are kept, as document 000 keeps them beside its done bit.
abbrev pub brings_to_zero : LatchFigures → Bool
brings_to_zero f = eqb f.count 1 && leb 1 f.waiters

unfoldable pub step_releasing : Bool → LatchSight → Move
step_releasing true s =
    act (with_left Resuming s.figures.waiters) (with_count 0 s.figures) MustResume
step_releasing false s = act free_slot (with_count (s.figures.count - 1) s.figures) Returned

-- carrying: 28
unfoldable pub step_resuming : LatchSight → Move
step_resuming s =
    let t = s.figures.resumed in
    act (with_left (ResumingAt t) s.slot.left) (with_resumed (t + 1) s.figures) (StartedResume t)

-- one hand-over used
abbrev pub used_one : LatchSight → LatchSlot
used_one s = carry_on (s.slot.left - 1)

-- handing, at a place where q waits: is q's phase waiting? 2A; q gives up meanwhile, 2B
unfoldable pub resume_waiter : Bool → ℕ → ℕ → LatchSight → Move
resume_waiter true q t s = wake q t (used_one s) s
resume_waiter false q t s = put Permit (used_one s) (Delegated t) s

-- handing: the waiter is still to come, 29; the wait was cancelled, 2C, which uses no hand-over; it was refused, 2D
unfoldable pub step_resuming_at : ℕ → Place → LatchSight → Move
step_resuming_at t Empty s = put Permit (used_one s) (LeftPermit t) s
step_resuming_at t (WaitedBy q) s = resume_waiter (is_waiting s.waiter.phase) q t s
step_resuming_at t Cancelled s = put Done (with_left Resuming s.slot.left) (Skipped t) s
step_resuming_at t Refused s = put Done (used_one s) (ResumeRefused t) s
step_resuming_at t Permit s = Refuse Unfit
step_resuming_at t Done s = Refuse Unfit

-- giving up: removes a waiter, if any. At the mark? 2F, else 2E.
unfoldable pub step_aborting : ℕ → Bool → LatchSight → Move
step_aborting t true s =
    act (in_phase (Refusing t)) (with_waiters (s.figures.waiters - 1) s.figures) MustRefuse
step_aborting t false s =
    act (in_phase (Cancelling t)) (with_waiters (s.figures.waiters - 1) s.figures) MustCancel

-- cancelling: 30; a hand-over came meanwhile, and is the party's to hand on, 31
unfoldable pub step_cancelling : ℕ → Place → LatchSight → Move
step_cancelling t (WaitedBy q) s = put Cancelled free_slot (MarkedCancelled t) s
step_cancelling t Permit s = put Done (with_left Resuming 1) (PassedOn t) s
step_cancelling t Empty s = Refuse Unfit
step_cancelling t Cancelled s = Refuse Unfit
step_cancelling t Refused s = Refuse Unfit
step_cancelling t Done s = Refuse Unfit

-- refusing: 32; the hand-over that it refuses has come, 33
unfoldable pub step_refusing : ℕ → Place → LatchSight → Move
step_refusing t (WaitedBy q) s = put Refused free_slot (MarkedRefused t) s
step_refusing t Permit s = put Done free_slot (DroppedPermit t) s
step_refusing t Empty s = Refuse Unfit
step_refusing t Cancelled s = Refuse Unfit
step_refusing t Refused s = Refuse Unfit
step_refusing t Done s = Refuse Unfit

-- The rows, each told the ticket of its phase. At rest: 8.
abbrev pub step_rows : LatchSight → List (Phase × (ℕ → Move))
step_rows s =
    (Free, λ t. Refuse AtRest)
    ∷ (Waiting 0, λ t. Refuse AtRest)
    ∷ (Acquiring, λ t. step_acquiring Acquiring Suspending (done s.figures) s.slot.raising s)
    ∷ (Suspending, λ t. step_suspending Ticketed s)
    ∷ (Ticketed 0, λ t. step_ticketed (Waiting t) t s.seat.place s)
    ∷ (Aborting 0, λ t. step_aborting t (done s.figures) s)
    ∷ (Cancelling 0, λ t. step_cancelling t s.seat.place s)
    ∷ (Refusing 0, λ t. step_refusing t s.seat.place s)
    ∷ (Releasing, λ t. step_releasing (brings_to_zero s.figures) s)
    ∷ (Resuming, λ t. step_resuming s)
    ∷ (ResumingAt 0, λ t. step_resuming_at t s.seat.place s)
    ∷ (AcquiringMarked, λ t. step_acquiring AcquiringMarked SuspendingMarked (done s.figures) s.slot.raising s)
    ∷ (SuspendingMarked, λ t. step_suspending TicketedMarked s)
    ∷ (TicketedMarked 0, λ t. step_ticketed (Aborting t) t s.seat.place s)
    ∷ []

-- The row of a phase. The hub's other phases have none: they do not fit here.
abbrev pub row_for : Phase → List (Phase × (ℕ → Move)) → Move
row_for f [] = Refuse Unfit
row_for f (r ∷ l) = cond (is_one_of (r.0 ∷ []) f) (r.1 (ticket_of f)) (row_for f l)

unfoldable pub step_in : Phase → LatchSight → Move
unfolding is_one_of
step_in f s = row_for f (step_rows s)

abbrev pub step : LatchSight → Move
step s = step_in s.slot.phase s

-- Await: is the party free; have 1,000,000 begun; is there no place for one more ticket?
unfoldable pub await : Bool → Bool → Bool → LatchSight → Move
await false e full s = Refuse NotFree
await true true full s = Refuse Exhausted
await true false true s = Refuse Full
await true false false s =
    act (in_phase Acquiring) (with_begun (s.figures.begun + 1) s.figures) Accepted

-- Give up, early too: can the party, raising being as asked; is its kind 3; the phase that it leads to.
unfoldable pub cancel : Bool → Bool → Phase → LatchSight → Move
cancel false k x s = Refuse NotWaiting
cancel true true x s = Refuse NotCancellable
cancel true false x s = turn (with_phase x s.slot) Accepted s

-- Count down: is the party free?
unfoldable pub count_down : Bool → LatchSight → Move
count_down false s = Refuse NotFree
count_down true s = turn (in_phase Releasing) Accepted s

-- What a call does on a record that fits and has the party. The Bool: is it full (7)?
unfoldable pub decide : LatchOp → Bool → LatchSight → Move
decide Await full s =
    await (is_free s.slot.phase) (leb MAX_BEGUN s.figures.begun) full s
decide Step full s = step s
decide Cancel full s =
    cancel (can_cancel s.slot.phase) (eqb s.kind 3) (given_up s.slot.phase) s
decide CountDown full s = count_down (is_free s.slot.phase) s
