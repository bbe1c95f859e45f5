-- Single cases as one table, with one test over all of it.
use Rattle.std.specs.Prelude.{ℕ, ◌≡◌, Bool, true, ◌&&◌, List, [], ◌∷◌, ◌++◌, eqb}
use Rattle.hub.specs.Answers.{Printed, printed, plain, with_number}
use Rattle.hub.specs.Basics.{count}
use Rattle.edges.specs.Edges.{same_answer}
use Rattle.hub.specs.Phases.{is_waiting}
use Rattle.latch.specs.declared.moves.LatchCall.{LatchCall}
use Rattle.latch.specs.declared.moves.LatchOp.{LatchOp}
use Rattle.latch.specs.declared.moves.LatchOp.TheVariants.{Await, Step, Cancel, CountDown}
use Rattle.latch.specs.declared.record.Latch.{Latch}
use Rattle.latch.specs.Calls.{called}
use Rattle.latch.specs.Opening.{opening, start_code}
use Rattle.latch.specs.Record.{phases_of}

-- A step of a run: the count before the call, the call, and what it must answer.
pub record Row : Type 0 where
  pub count : ℕ
  pub call : LatchCall
  pub answer : Printed

abbrev pub at : ℕ → LatchOp → ℕ → Printed → Row
at c o p r = record { count = c; call = record { op = o; party = p }; answer = r }

pub data Edge : Type 0 where
  -- An opening with N and n, and its code.
  opens : ℕ → ℕ → ℕ → Edge
  -- An opening and a run; at its end those waiting, the count and the waiters.
  runs : ℕ → ℕ → List Row → ℕ → ℕ → ℕ → Edge

-- 2A: who was woken, and the number.
abbrev pub woke : ℕ → ℕ → Printed
woke q t = record { code = 0x2A; woken = q; number = t }

-- With a count of c, party p comes to wait with ticket t.
abbrev pub waits : ℕ → ℕ → ℕ → List Row
waits c p t =
    at c Await p (plain 0x20)
    ∷ at c Step p (plain 0x22)
    ∷ at c Step p (plain 0x22)
    ∷ at c Step p (with_number 0x23 t)
    ∷ at c Step p (with_number 0x24 t)
    ∷ []

-- The last count-down with a waiter; who comes after it does not wait.
abbrev pub awaited : List Row
awaited =
    waits 1 0 0
    ++ (at 1 CountDown 1 (plain 0x20)
    ∷ at 1 Step 1 (plain 0x27)
    ∷ at 0 Step 1 (with_number 0x28 0)
    ∷ at 0 Step 1 (woke 0 0)
    ∷ at 0 Step 1 (plain 0x08)
    ∷ at 0 Step 0 (plain 0x08)
    ∷ at 0 Await 2 (plain 0x20)
    ∷ at 0 Step 2 (plain 0x21)
    ∷ [])

-- The last count-down without one, and one more.
abbrev pub unawaited : List Row
unawaited =
    at 2 CountDown 0 (plain 0x20)
    ∷ at 2 Step 0 (plain 0x26)
    ∷ at 1 CountDown 1 (plain 0x20)
    ∷ at 1 CountDown 1 (plain 0x05)
    ∷ at 1 Step 1 (plain 0x26)
    ∷ at 0 CountDown 0 (plain 0x20)
    ∷ at 0 Step 0 (plain 0x26)
    ∷ []

-- Raising at the mark, and a give-up that is forgotten there.
abbrev pub raised : List Row
raised =
    at 1 Await 0 (plain 0x20)
    ∷ at 1 Step 0 (plain 0x22)
    ∷ at 1 Cancel 0 (plain 0x20)
    ∷ at 1 Cancel 0 (plain 0x09)
    ∷ at 1 CountDown 1 (plain 0x20)
    ∷ at 1 Step 1 (plain 0x26)
    ∷ at 0 Step 0 (plain 0x21)
    ∷ at 0 Cancel 0 (plain 0x09)
    ∷ []

-- A give-up before the mark: nobody is left to hand over to.
abbrev pub withdrawn : List Row
withdrawn =
    waits 1 0 0
    ++ (at 1 Cancel 0 (plain 0x20)
    ∷ at 1 Step 0 (plain 0x2E)
    ∷ at 1 Step 0 (with_number 0x30 0)
    ∷ at 1 CountDown 1 (plain 0x20)
    ∷ at 1 Step 1 (plain 0x26)
    ∷ [])

-- A give-up after it: the hand-over is met by a refusal, and the party carries on.
abbrev pub refused : List Row
refused =
    waits 1 0 0 ++ waits 1 1 1
    ++ (at 1 CountDown 2 (plain 0x20)
    ∷ at 1 Step 2 (plain 0x27)
    ∷ at 0 Cancel 0 (plain 0x20)
    ∷ at 0 Step 0 (plain 0x2F)
    ∷ at 0 Step 0 (with_number 0x32 0)
    ∷ at 0 Step 2 (with_number 0x28 0)
    ∷ at 0 Step 2 (with_number 0x2D 0)
    ∷ at 0 Step 2 (with_number 0x28 1)
    ∷ at 0 Step 2 (woke 1 1)
    ∷ at 0 Step 2 (plain 0x08)
    ∷ [])

-- It has come already, and is dropped.
abbrev pub dropped : List Row
dropped =
    waits 1 0 0
    ++ (at 1 CountDown 1 (plain 0x20)
    ∷ at 1 Step 1 (plain 0x27)
    ∷ at 0 Step 1 (with_number 0x28 0)
    ∷ at 0 Cancel 0 (plain 0x20)
    ∷ at 0 Step 0 (plain 0x2F)
    ∷ at 0 Step 1 (with_number 0x2B 0)
    ∷ at 0 Step 1 (plain 0x08)
    ∷ at 0 Step 0 (with_number 0x33 0)
    ∷ at 0 Step 0 (plain 0x08)
    ∷ [])

-- 31 gives a hand-over.
abbrev pub passed_on : List Row
passed_on =
    waits 1 0 0 ++ waits 1 1 1
    ++ (at 1 Cancel 0 (plain 0x20)
    ∷ at 1 Step 0 (plain 0x2E)
    ∷ at 1 CountDown 2 (plain 0x20)
    ∷ at 1 Step 2 (plain 0x27)
    ∷ at 0 Step 2 (with_number 0x28 0)
    ∷ at 0 Step 2 (with_number 0x2B 0)
    ∷ at 0 Step 2 (plain 0x08)
    ∷ at 0 Step 0 (with_number 0x31 0)
    ∷ at 0 Step 0 (with_number 0x28 1)
    ∷ at 0 Step 0 (woke 1 1)
    ∷ at 0 Step 0 (plain 0x08)
    ∷ [])

-- 2C uses none.
abbrev pub passed_by : List Row
passed_by =
    waits 1 0 0 ++ waits 1 1 1
    ++ (at 1 Cancel 0 (plain 0x20)
    ∷ at 1 Step 0 (plain 0x2E)
    ∷ at 1 CountDown 2 (plain 0x20)
    ∷ at 1 Step 2 (plain 0x27)
    ∷ at 0 Step 2 (with_number 0x28 0)
    ∷ at 0 Step 0 (with_number 0x30 0)
    ∷ at 0 Step 2 (with_number 0x2C 0)
    ∷ at 0 Step 2 (with_number 0x28 1)
    ∷ at 0 Step 2 (woke 1 1)
    ∷ at 0 Step 2 (plain 0x08)
    ∷ [])

-- The hand-over comes before the waiter.
abbrev pub came_first : List Row
came_first =
    at 1 Await 0 (plain 0x20)
    ∷ at 1 Step 0 (plain 0x22)
    ∷ at 1 Step 0 (plain 0x22)
    ∷ at 1 CountDown 1 (plain 0x20)
    ∷ at 1 Step 1 (plain 0x27)
    ∷ at 0 Step 1 (with_number 0x28 0)
    ∷ at 0 Step 1 (with_number 0x29 0)
    ∷ at 0 Step 0 (with_number 0x23 0)
    ∷ at 0 Step 0 (with_number 0x25 0)
    ∷ at 0 Step 0 (plain 0x08)
    ∷ []

-- Giving up early, party 0 in asked and party 1 in raising; where the wait would begin it is given up.
abbrev pub cancelled_early : List Row
cancelled_early =
    at 2 Await 0 (plain 0x20)
    ∷ at 2 Cancel 0 (plain 0x20)
    ∷ at 2 Step 0 (plain 0x22)
    ∷ at 2 Step 0 (plain 0x22)
    ∷ at 2 Step 0 (with_number 0x23 0)
    ∷ at 2 Step 0 (with_number 0x24 0)
    ∷ at 2 Cancel 0 (plain 0x09)
    ∷ at 2 Step 0 (plain 0x2E)
    ∷ at 2 Step 0 (with_number 0x30 0)
    ∷ at 2 Await 1 (plain 0x20)
    ∷ at 2 Step 1 (plain 0x22)
    ∷ at 2 Cancel 1 (plain 0x20)
    ∷ at 2 Step 1 (plain 0x22)
    ∷ at 2 Step 1 (with_number 0x23 1)
    ∷ at 2 Step 1 (with_number 0x24 1)
    ∷ at 2 Step 1 (plain 0x2E)
    ∷ at 2 Step 1 (with_number 0x30 1)
    ∷ []

-- Party n in each of the calls, and party n − 1.
abbrev pub bounded : List Row
bounded =
    at 1 Await 3 (plain 0x04)
    ∷ at 1 Step 3 (plain 0x04)
    ∷ at 1 Cancel 3 (plain 0x04)
    ∷ at 1 CountDown 3 (plain 0x04)
    ∷ at 1 Await 2 (plain 0x20)
    ∷ at 1 Await 2 (plain 0x05)
    ∷ at 1 CountDown 2 (plain 0x05)
    ∷ at 1 Step 0 (plain 0x08)
    ∷ at 1 Cancel 0 (plain 0x09)
    ∷ []

-- Kind 3 may not give up.
abbrev pub kinds : List Row
kinds =
    at 200 Await 31 (plain 0x20)
    ∷ at 200 Cancel 31 (plain 0x0A)
    ∷ at 200 Await 32 (plain 0x04)
    ∷ []

unfoldable pub edges : List Edge
edges =
    opens 0 3 18
    ∷ opens 201 3 18
    ∷ opens 200 32 0x1F
    ∷ opens 0 0 3
    ∷ opens 1 33 3
    ∷ opens 1 1 0x1F
    ∷ runs 1 3 awaited 0 0 1
    ∷ runs 2 2 unawaited 0 0 0
    ∷ runs 1 3 raised 0 0 0
    ∷ runs 1 3 withdrawn 0 0 0
    ∷ runs 1 3 refused 0 0 1
    ∷ runs 1 2 dropped 0 0 0
    ∷ runs 1 3 passed_on 0 0 1
    ∷ runs 1 3 passed_by 0 0 1
    ∷ runs 1 2 came_first 0 0 1
    ∷ runs 2 2 cancelled_early 0 2 0
    ∷ runs 1 3 bounded 0 1 0
    ∷ runs 200 32 kinds 0 200 0
    ∷ []

-- Does the run go so, from this record, and end with so many waiting, this count and these waiters?
unfoldable pub goes : ℕ → ℕ → ℕ → Latch → List Row → Bool
goes a c w h [] =
    eqb (count is_waiting (phases_of h.slots)) a && eqb h.figures.count c
    && eqb h.figures.waiters w
goes a c w h (r ∷ rs) =
    let o = called h r.call in
    eqb h.figures.count r.count && same_answer (printed o.answer) r.answer
    && goes a c w o.latch rs

unfoldable pub holds_at : Edge → Bool
holds_at (opens c n x) = eqb (start_code (opening c n).start) x
holds_at (runs c n rs a d w) = goes a d w (opening c n).latch rs

unfoldable pub all_hold : List Edge → Bool
all_hold [] = true
all_hold (e ∷ es) = holds_at e && all_hold es

unfoldable pub EdgesHold : Type 0
EdgesHold = all_hold edges ≡ true
