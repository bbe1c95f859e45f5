-- Document 000's listings with asynchronous resumption and smart cancellation: 1 (threads), 2 (suspend), 6 (resume
-- and the cancellation handler) and 15 (the semaphore). Every thread runs acquire() and release() over and over. A
-- step is one shared action of one thread; in the comments 6: 4 is line 4 of listing 6. Nothing of document 01 is
-- here: a cell keeps its last mark, and each cancelled cell is passed by a resume(..) that draws it. 6: 48 is about
-- segments, which an infinite array does not have.
use Rattle.std.specs.Prelude.{ℕ, ◌+◌, Bool, false, cond, List, [], ◌∷◌, eqb, ℤ, pos}
use Rattle.std.proofs.Math.IntN.{pred_ℤ, suc_ℤ}
use Rattle.hub.specs.Table.{above_zero, below_zero}

pub data Cell : Type 0 where
  Null : Cell
  Thread : ℕ → Cell
  Value : Cell  -- Unit: a semaphore hands on nothing else
  Taken : Cell
  Resumed : Cell
  Cancelled : Cell
  Refuse : Cell

-- The line that a thread runs next, with its locals i and cur.
pub data Line : Type 0 where
  Outside : Line  -- it calls acquire()
  Inside : Line  -- it calls release()
  Acquire9 : Line
  Suspend6 : Line
  Suspend9 : ℕ → Line
  Suspend10 : ℕ → Line
  Suspend12 : ℕ → Line  -- the read
  Taking12 : ℕ → Line  -- the write
  Release16 : Line
  Resume2 : Line
  Resume4 : ℕ → Line
  Resume7 : ℕ → Line
  Resume10 : ℕ → ℕ → Line
  Resume11 : ℕ → Line
  Resume19 : ℕ → ℕ → Line
  Resume26 : ℕ → Line
  Resume28 : ℕ → Line
  Handler45 : ℕ → Line
  Handler55 : ℕ → Line

-- Listing 1 says in prose how park(..), unpark(..) and cancel() act on each other. What a thread's present acquire()
-- knows of it, as the paper's own proof has it (listing 19): unpark(..) or cancel() settles a request, the first of
-- them for good.
pub data Request : Type 0 where
  Fresh : Request  -- not in a cell yet
  Parked : ℕ → Request  -- in cells[i]
  Unparked : Request
  Aborted : Request  -- by cancel(), in a cell or before

pub record Listing : Type 0 where
  pub state : ℤ
  pub suspend_idx : ℕ
  pub resume_idx : ℕ
  pub cells : ℕ → Cell
  pub lines : ℕ → Line  -- each thread's
  pub requests : ℕ → Request

-- A function changed at i.
unfoldable pub override : {A : Type 0} → (ℕ → A) → ℕ → A → ℕ → A
override g i a j = cond (eqb j i) a (g j)

abbrev pub listing : ℤ → ℕ → ℕ → (ℕ → Cell) → (ℕ → Line) → (ℕ → Request) → Listing
listing c i r g l q =
    record { state = c; suspend_idx = i; resume_idx = r; cells = g; lines = l; requests = q }

-- The counters change; thread p comes to line x; cell i becomes a; the request of thread p becomes g.
abbrev pub counters : ℤ → ℕ → ℕ → Listing → Listing
counters c i r s = listing c i r s.cells s.lines s.requests

abbrev pub goto : ℕ → Line → Listing → Listing
goto p x s =
    listing s.state s.suspend_idx s.resume_idx s.cells (override s.lines p x) s.requests

abbrev pub mark : ℕ → Cell → Listing → Listing
mark i a s =
    listing s.state s.suspend_idx s.resume_idx (override s.cells i a) s.lines s.requests

abbrev pub request : ℕ → Request → Listing → Listing
request p g s =
    listing s.state s.suspend_idx s.resume_idx s.cells s.lines (override s.requests p g)

abbrev pub with_state : ℤ → Listing → Listing
with_state c s = counters c s.suspend_idx s.resume_idx s

-- The listings' tests of a cell.
abbrev pub cell_rank : Cell → ℕ
cell_rank =
    elim [ Null ↦ 0 | Thread q ↦ 1 | Value ↦ 2 | Taken ↦ 3 | Resumed ↦ 4 | Cancelled ↦ 5 | Refuse ↦ 6 ]

abbrev pub is_null : Cell → Bool
is_null c = eqb (cell_rank c) 0

abbrev pub is_thread : Cell → Bool
is_thread c = eqb (cell_rank c) 1

abbrev pub is_thread_of : ℕ → Cell → Bool
is_thread_of p =
    elim [
      | Null ↦ false
      | Thread q ↦ eqb q p
      | Value ↦ false
      | Taken ↦ false
      | Resumed ↦ false
      | Cancelled ↦ false
      | Refuse ↦ false
    ]

-- A request enters cells[i]; cancel(), 1: 4.
abbrev pub parked : ℕ → Request → Request
parked i = elim [ Fresh ↦ Parked i | Parked j ↦ Parked j | Unparked ↦ Unparked | Aborted ↦ Aborted ]

abbrev pub aborted : Request → Request
aborted = elim [ Fresh ↦ Aborted | Parked j ↦ Aborted | Unparked ↦ Unparked | Aborted ↦ Aborted ]

-- unpark(..) of the thread that was read from cells[i], 1: 3: does it end that wait?
abbrev pub is_parked_at : ℕ → Request → Bool
is_parked_at i = elim [ Fresh ↦ false | Parked j ↦ eqb j i | Unparked ↦ false | Aborted ↦ false ]

abbrev pub unparks : ℕ → ℕ → Listing → Bool
unparks q i s = is_parked_at i (s.requests q)

-- 6: 5 to 27, the branch for what 6: 4 read. A cell with another mark has no branch: once more round 6: 3.
abbrev pub branch : ℕ → Cell → Line
branch i =
    elim [
      | Null ↦ Resume7 i
      | Thread q ↦ Resume10 i q
      | Value ↦ Resume4 i
      | Taken ↦ Resume4 i
      | Resumed ↦ Resume4 i
      | Cancelled ↦ Resume26 i
      | Refuse ↦ Resume28 i
    ]

-- 2: 10  return park(). An unparked thread returns; an aborted one runs the handler: 6: 42 is 15: 21  s :=
-- FAA(&state, 1), and 15: 27  return s < 0; all others stay there.
unfoldable pub park : Request → ℕ → ℕ → Listing → Listing
park Fresh p i s = s
park (Parked j) p i s = s
park Unparked p i s = goto p Inside s
park Aborted p i s =
    goto p (cond (below_zero s.state) (Handler45 i) (Handler55 i)) (with_state (suc_ℤ s.state) s)

-- The next action of thread p.
unfoldable pub act : Line → ℕ → Listing → Listing
act Outside p s = goto p Acquire9 (request p Fresh s)
act Inside p s = goto p Release16 s
-- 15: 9  s := FAA(&state, -1)   11  if s > 0: return   13  return cqs.suspend()
act Acquire9 p s =
    goto p (cond (above_zero s.state) Inside Suspend6) (with_state (pred_ℤ s.state) s)
-- 2: 6  i := FAA(&suspendIdx, +1)
act Suspend6 p s =
    goto p (Suspend9 s.suspend_idx) (counters s.state (s.suspend_idx + 1) s.resume_idx s)
-- 2: 9  if CAS(&cells[i], null, t):
act (Suspend9 i) p s =
    cond (is_null (s.cells i))
    (goto p (Suspend10 i) (mark i (Thread p) (request p (parked i (s.requests p)) s)))
    (goto p (Suspend12 i) s)
act (Suspend10 i) p s = park (s.requests p) p i s
-- 2: 12  result := cells[i]; cells[i] = TAKEN   13  return result
act (Suspend12 i) p s = goto p (Taking12 i) s
act (Taking12 i) p s = goto p Inside (mark i Taken s)
-- 15: 16  s := FAA(&state, 1)   18  if s < 0: cqs.resume(Unit)
act Release16 p s =
    goto p (cond (below_zero s.state) Resume2 Outside) (with_state (suc_ℤ s.state) s)
-- 6: 2  i := FAA(&resumeIdx, +1)   4  cur := cells[i]
act Resume2 p s =
    goto p (Resume4 s.resume_idx) (counters s.state s.suspend_idx (s.resume_idx + 1) s)
act (Resume4 i) p s = goto p (branch i (s.cells i)) s
-- 6: 7  if CAS(&cells[i], null, value):   8  return true
act (Resume7 i) p s =
    cond (is_null (s.cells i)) (goto p Outside (mark i Value s)) (goto p (Resume4 i) s)
-- 6: 10  if cur.unpark(value):   11  cells[i] = RESUMED   12  return true
act (Resume10 i q) p s =
    cond (unparks q i s) (goto p (Resume11 i) (request q Unparked s)) (goto p (Resume19 i q) s)
act (Resume11 i) p s = goto p Outside (mark i Resumed s)
-- 6: 19  if CAS(&cells[i], cur, value):   20  return true
act (Resume19 i q) p s =
    cond (is_thread_of q (s.cells i)) (goto p Outside (mark i Value s)) (goto p (Resume4 i) s)
-- 6: 26  return resume(value)   28  completeRefusedResume(value), which does nothing (15: 29 to 32)   29  return true
act (Resume26 i) p s = goto p Resume2 s
act (Resume28 i) p s = goto p Outside s
-- 6: 45  old := GetAndSet(&s[i], CANCELLED)   47  if old is Thread, it is done   52  else resume(old)
act (Handler45 i) p s = goto p (cond (is_thread (s.cells i)) Outside Resume2) (mark i Cancelled s)
-- 6: 55  old := GetAndSet(&s[i], REFUSE)   57  if old is Thread: return   61  else completeRefusedResume(old)
act (Handler55 i) p s = goto p Outside (mark i Refuse s)

-- What may happen: a thread acts, or somebody cancels it.
pub data Event : Type 0 where
  Acts : ℕ → Event
  Cancels : ℕ → Event

unfoldable pub happen : Event → Listing → Listing
happen (Acts p) s = act (s.lines p) p s
happen (Cancels p) s = request p (aborted (s.requests p)) s

unfoldable pub play : List Event → Listing → Listing
play [] s = s
play (e ∷ es) s = play es (happen e s)

-- At the start, with k permits.
unfoldable pub idle : ℕ → Listing
idle k = listing (pos k) 0 0 (λ i. Null) (λ p. Outside) (λ p. Fresh)
