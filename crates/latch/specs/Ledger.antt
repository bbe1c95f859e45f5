-- A ledger kept from the calls and their answers alone: what each party is about, the count-downs and the waiters.
use Rattle.std.specs.Prelude.{ℕ, ◌+◌, ◌-◌, Bool, cond, List, [], ◌∷◌, ltb, eqb, get_or, set, replicate}
use Rattle.hub.specs.declared.record.Phase.{Phase}
use Rattle.hub.specs.Answers.{Printed}
use Rattle.hub.specs.Basics.{bit, among}
use Rattle.hub.specs.Phases.{is_marked, ticket_of}
use Rattle.hub.specs.Record.{PARTIES}
use Rattle.hub.specs.Table.{given_up}
use Rattle.latch.specs.declared.moves.LatchOp.{LatchOp}
use Rattle.latch.specs.declared.record.LatchSlot.{LatchSlot}
use Rattle.latch.specs.Record.{carry_on, free_slot, in_phase, to_raise, with_left, with_phase}
use Rattle.latch.specs.Schedule.{Entry}

pub record Ledger : Type 0 where
  pub slots : List LatchSlot  -- each party's
  pub downs : ℕ  -- count-downs: answers 26 and 27
  pub waiters : ℕ

-- At an opening.
abbrev pub opened : Ledger
opened = record { slots = replicate PARTIES free_slot; downs = 0; waiters = 0 }

-- The count: N less the count-downs, not below 0.
abbrev pub count_in : ℕ → Ledger → ℕ
count_in c e = c - e.downs

abbrev pub slot_in : List LatchSlot → ℕ → LatchSlot
slot_in l p = get_or l p free_slot

-- A party whose call was accepted, by 20 (a step never is).
abbrev pub accepted : LatchOp → LatchSlot → LatchSlot
accepted LatchOp.Await s = in_phase Phase.Acquiring
accepted LatchOp.Step s = s
accepted LatchOp.Cancel s = with_phase (given_up s.phase) s
accepted LatchOp.CountDown s = in_phase Phase.Releasing

-- What an answer leads to, but for 20. Before it the party was s and there were w waiters; the number in
-- the answer is n. Its ticket and its mark go along.
pub record Leads : Type 0 where
  pub code : ℕ
  pub slot : LatchSlot

abbrev pub to : ℕ → LatchSlot → Leads
to c x = record { code = c; slot = x }

abbrev pub leads : ℕ → LatchSlot → ℕ → List Leads
leads w s n =
    let t = ticket_of s.phase in
    let m = is_marked s.phase in
    let h = s.left in
    to 0x21 free_slot
    ∷ to 0x22
    (cond s.raising (in_phase (cond m Phase.SuspendingMarked Phase.Suspending)) (to_raise s.phase))
    ∷ to 0x23 (in_phase (cond m (Phase.TicketedMarked n) (Phase.Ticketed n)))
    ∷ to 0x24 (in_phase (cond m (Phase.Aborting t) (Phase.Waiting t)))
    ∷ to 0x25 free_slot
    ∷ to 0x26 free_slot
    ∷ to 0x27 (with_left Phase.Resuming w)
    ∷ to 0x28 (with_left (Phase.ResumingAt n) h)
    ∷ to 0x29 (carry_on (h - 1))
    ∷ to 0x2A (carry_on (h - 1))
    ∷ to 0x2B (carry_on (h - 1))
    ∷ to 0x2C (with_left Phase.Resuming h)
    ∷ to 0x2D (carry_on (h - 1))
    ∷ to 0x2E (in_phase (Phase.Cancelling t))
    ∷ to 0x2F (in_phase (Phase.Refusing t))
    ∷ to 0x30 free_slot
    ∷ to 0x31 (with_left Phase.Resuming 1)
    ∷ to 0x32 free_slot
    ∷ to 0x33 free_slot
    ∷ []

-- What a list says of code c; s where it says nothing.
abbrev pub led_to : ℕ → List Leads → LatchSlot → LatchSlot
led_to c [] s = s
led_to c (x ∷ xs) s = cond (eqb c x.code) x.slot (led_to c xs s)

-- The calling party after its answer; s is what it was before.
unfoldable pub slot_after : LatchOp → ℕ → LatchSlot → Printed → LatchSlot
slot_after o w s r =
    cond (eqb r.code 0x20) (accepted o s) (led_to r.code (leads w s r.number) s)

-- A 2A makes the woken party free.
unfoldable pub slots_after : LatchOp → ℕ → ℕ → Printed → List LatchSlot → List LatchSlot
slots_after o p w r l =
    let woken = cond (eqb r.code 0x2A) (set l r.woken free_slot) l in
    set woken p (slot_after o w (slot_in l p) r)

-- A waiter more for the 22 of a raising party, one less for each 2E and 2F.
unfoldable pub waiters_after : ℕ → LatchSlot → ℕ → ℕ
waiters_after c s w =
    cond (eqb c 0x22) (w + bit s.raising) (cond (among (0x2E ∷ 0x2F ∷ []) c) (w - 1) w)

-- A count-down.
abbrev pub is_down : ℕ → Bool
is_down = among (0x26 ∷ 0x27 ∷ [])

-- A success of party p.
abbrev pub succeeded : LatchOp → ℕ → Printed → Ledger → Ledger
succeeded o p r e =
    record {
      slots = slots_after o p e.waiters r e.slots;
      downs = e.downs + bit (is_down r.code);
      waiters = waiters_after r.code (slot_in e.slots p) e.waiters;
    }

-- One entry; a refusal, a code below 20, moves nobody.
unfoldable pub enter : Ledger → Entry → Ledger
enter e x =
    let r = x.answer in
    cond (ltb r.code 0x20) e (succeeded x.call.op x.call.party r e)

unfoldable pub ledger : Ledger → List Entry → Ledger
ledger e [] = e
ledger e (x ∷ xs) = ledger (enter e x) xs
