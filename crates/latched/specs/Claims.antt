-- What is claimed of every schedule from an opening, any parties and refused calls included.
use Rattle.std.specs.Prelude.{ℕ, ◌+◌, ◌-◌, ◌≡◌, Bool, true, false, List, [], ◌∷◌, ltb}
use Rattle.hub.specs.declared.record.Phase.{Phase}
use Rattle.hub.specs.Answers.{printed}
use Rattle.hub.specs.Basics.{among, bit}
use Rattle.hub.specs.Phases.{at_rest}
use Rattle.latch.specs.declared.moves.LatchCall.{LatchCall}
use Rattle.latch.specs.declared.moves.LatchOp.{LatchOp}
use Rattle.latch.specs.declared.record.Latch.{Latch}
use Rattle.latch.specs.declared.record.LatchSlot.{LatchSlot}
use Rattle.latch.specs.Calls.{called}
use Rattle.latch.specs.Fits.{fits}
use Rattle.latch.specs.Ledger.{Ledger, count_in, is_down, ledger, opened, slot_in}
use Rattle.latch.specs.Opening.{Start, opening}
use Rattle.latch.specs.Record.{read_slot}
use Rattle.latch.specs.Schedule.{Entry, run, entries}

-- A claim C of N, n and a list of calls holds of every schedule from an opening that is accepted.
abbrev pub OnSchedules : (ℕ → ℕ → List LatchCall → Type 0) → Type 0
OnSchedules C =
    (c n : ℕ) → (opening c n).start ≡ Start.Opened → (cs : List LatchCall) → C c n cs

-- An answer that lets a party go.
abbrev pub lets_go : ℕ → Bool
lets_go = among (0x21 ∷ 0x25 ∷ 0x2A ∷ [])

-- Nobody is let go before the count is 0: N = c less the count-downs so far, d of them at first.
unfoldable pub NoneEarly : ℕ → ℕ → List Entry → Type 0
NoneEarly c d [] = Unit {0}
NoneEarly c d (x ∷ xs) =
    (lets_go x.answer.code ≡ true → c - d ≡ 0)
    × NoneEarly c (d + bit (is_down x.answer.code)) xs

unfoldable pub NobodyEarly : Type 0
NobodyEarly = OnSchedules (λ c n cs. NoneEarly c 0 (entries (opening c n).latch cs))

-- Everybody is at rest.
abbrev pub Calm : List LatchSlot → Type 0
Calm l = (p : ℕ) → at_rest (slot_in l p).phase ≡ true

-- What holds of N = c, a ledger e and the record h that the schedule left.
pub record Accounts (c : ℕ) (e : Ledger) (h : Latch) : Type 0 where
  -- The record shows what the calls and answers tell.
  pub slots : h.slots ≡ e.slots
  pub count : h.figures.count ≡ count_in c e
  pub waiters : h.figures.waiters ≡ e.waiters
  -- With everyone at rest after the count is 0, nobody waits.
  pub released : count_in c e ≡ 0 → Calm e.slots → (p t : ℕ)
      → (slot_in e.slots p).phase ≡ Phase.Waiting t → ⊥

unfoldable pub NobodyLeft : Type 0
NobodyLeft =
    OnSchedules (λ c n cs.
    let h = (opening c n).latch in
    Accounts c (ledger opened (entries h cs)) (run h cs))

-- Every record reached fits, so that no schedule meets refusal 1.
unfoldable pub ReachedFits : Type 0
ReachedFits = OnSchedules (λ c n cs. fits (run (opening c n).latch cs) ≡ true)

-- No busy party's step is refused, by a code below 20.
abbrev pub step_by : ℕ → LatchCall
step_by p = record { op = LatchOp.Step; party = p }

abbrev pub Busy : Latch → ℕ → Type 0
Busy h p = at_rest (read_slot h.slots p).phase ≡ false

unfoldable pub NoStepRefused : Type 0
NoStepRefused =
    OnSchedules (λ c n cs.
    let h = run (opening c n).latch cs in
    (p : ℕ) → Busy h p → ltb (printed (called h (step_by p)).answer).code 0x20 ≡ false)
