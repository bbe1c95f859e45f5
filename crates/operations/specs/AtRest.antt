-- What an operation comes to on a hub at rest, without its steps.
use Rattle.std.specs.Prelude.{ℕ, ◌+◌, ◌≡◌, Bool, true, false, cond, List}
use Rattle.std.proofs.Math.IntN.{suc_ℤ, pred_ℤ}
use Rattle.hub.specs.declared.answers.Answer.{Answer}
use Rattle.hub.specs.declared.moves.Call.{Call}
use Rattle.hub.specs.declared.moves.Op.{Op}
use Rattle.hub.specs.declared.opening.Opening.{Opening}
use Rattle.hub.specs.declared.record.Hub.{Hub}
use Rattle.hub.specs.declared.record.Phase.{Phase}
use Rattle.hub.specs.declared.record.Place.{Place}
use Rattle.hub.specs.declared.record.Pool.{Pool}
use Rattle.hub.specs.Calls.{move_of, tidied}
use Rattle.hub.specs.Calm.{rests}
use Rattle.hub.specs.Moves.{Move, Refuse, Tell, Act, Put, Wake}
use Rattle.hub.specs.Opening.{opening}
use Rattle.hub.specs.Phases.{by_waiter, ticket_of}
use Rattle.hub.specs.Radios.{fetch, hand_of, hand_to, put_back}
use Rattle.hub.specs.Record.{read_slot, with_figures, with_phase, with_place, with_places, with_pool, with_slots, write_slot}
use Rattle.hub.specs.Ring.{read_place, read_seat, write_seat}
use Rattle.hub.specs.Schedule.{run}
use Rattle.hub.specs.Table.{above_zero, below_zero, with_begun, with_counter, with_issued, with_resumed}
use Rattle.operations.specs.Operation.{operated, turns_down}
use Rattle.operations.specs.declared.Operated.{Operated}

-- Party p is in phase x; the place of ticket t is in state a; and all else as it was.
abbrev pub phase_to : ℕ → Phase → Hub → Hub
phase_to p x h = with_slots (write_slot h.slots p (with_phase x (read_slot h.slots p))) h

abbrev pub place_to : ℕ → Place → Hub → Hub
place_to t a h = with_places (write_seat h.places t (with_place a (read_seat h.places t))) h

-- The radios move on a hub that has some.
abbrev pub radios_by : (Pool → Pool) → Hub → Hub
radios_by m h = with_pool (cond h.control.opening.named (m h.control.pool) h.control.pool) h

-- One step, and one more for the radio of a hub that has some.
abbrev pub one_step : Hub → ℕ
one_step h = cond h.control.opening.named 2 1

abbrev pub came : ℕ → ℕ → Hub → Operated
came woken steps h = record { answer = Answer.Accepted; woken = woken; steps = steps; hub = h }

-- Ask: is a permit at the counter? 21, and 36; else 22, 23, 24.
unfoldable pub acquired : Bool → Hub → ℕ → Operated
acquired true h p =
    let f = h.control.figures in
    came 0xFF (one_step h)
    (radios_by (fetch p)
    (phase_to p Phase.Holding
    (with_figures (with_counter (pred_ℤ f.counter) (with_begun (f.begun + 1) f)) h)))
acquired false h p =
    let f = h.control.figures in
    let t = f.issued in
    came 0xFF 3
    (place_to t (Place.Waiting p)
    (phase_to p (Phase.Waiting t)
    (with_figures (with_counter (pred_ℤ f.counter) (with_issued (t + 1) (with_begun (f.begun + 1) f))) h)))

-- Give up: 2E, 30.
unfoldable pub cancelled : Hub → ℕ → Operated
cancelled h p =
    let f = h.control.figures in
    came 0xFF 2
    (tidied
    (place_to (ticket_of (read_slot h.slots p).phase) Place.Cancelled
    (phase_to p Phase.Free
    (with_figures (with_counter (suc_ℤ f.counter) f) h))))

-- Give back: does somebody wait? 27, 28, 2A, and the next in line holds; else 26, and 38.
unfoldable pub released : Bool → Hub → ℕ → Operated
released false h p =
    let f = h.control.figures in
    came 0xFF (one_step h)
    (radios_by (λ q. put_back (hand_of q p) q)
    (phase_to p Phase.Free
    (with_figures (with_counter (suc_ℤ f.counter) f) h)))
released true h p =
    let f = h.control.figures in
    let t = f.resumed in
    let q = by_waiter 0xFF (λ x. x) (read_place h.places t) in
    came q 3
    (tidied
    (radios_by (λ r. hand_to q (hand_of r p) r)
    (place_to t Place.Done
    (phase_to p Phase.Free
    (phase_to q Phase.Holding
    (with_figures (with_counter (suc_ℤ f.counter) (with_resumed (t + 1) f)) h))))))

-- An operation that is not refused. A step and call 14 are none, and nothing is claimed of them.
abbrev pub accepted_at : Op → Hub → ℕ → Operated
accepted_at Op.Acquire h p = acquired (above_zero h.control.figures.counter) h p
accepted_at Op.Cancel h p = cancelled h p
accepted_at Op.Release h p = released (below_zero h.control.figures.counter) h p
accepted_at Op.Step h p = came 0xFF 0 h
accepted_at Op.Radio h p = came 0xFF 0 h

-- A refusal leaves the record as it was.
abbrev pub by_move : Move → Hub → Call → Operated
by_move (Refuse r) h c = record { answer = Answer.Refused r; woken = 0xFF; steps = 0; hub = h }
by_move (Tell y) h c = accepted_at c.op h c.party
by_move (Act x) h c = accepted_at c.op h c.party
by_move (Put a x) h c = accepted_at c.op h c.party
by_move (Wake q s a x) h c = accepted_at c.op h c.party

unfoldable pub operated_at_rest : Hub → Call → Operated
operated_at_rest h c = by_move (move_of h c) h c

-- A claim C about records holds of each one that a schedule reaches from an accepted opening, with radios or
-- without, and on which everybody is at rest.
abbrev pub OnRest : (Hub → Type 0) → Type 0
OnRest C =
    (o : Opening) → (opening o).answer ≡ Answer.Opened → (cs : List Call)
    → let h = run (opening o).hub cs in
    ((p : ℕ) → rests h p ≡ true) → C h

-- Ask, give up, give back.
abbrev pub is_operation : Op → Bool
is_operation Op.Acquire = true
is_operation Op.Step = false
is_operation Op.Cancel = true
is_operation Op.Release = true
is_operation Op.Radio = false

-- On every record, whoever is busy: an operation that is refused has no steps and leaves the record alone.
unfoldable pub RefusalLeaves : Type 0
RefusalLeaves =
    (h : Hub) (c : Call) → is_operation c.op ≡ true → turns_down (operated h c).answer ≡ true
    → operated h c ≡ record { answer = (operated h c).answer; woken = 0xFF; steps = 0; hub = h }

-- At rest each operation comes to its closed form,
unfoldable pub ComesTo : Type 0
ComesTo = OnRest (λ h. (c : Call) → is_operation c.op ≡ true → operated h c ≡ operated_at_rest h c)

-- and everybody is at rest again: three steps were enough, and nobody else had to step.
unfoldable pub EndsAtRest : Type 0
EndsAtRest =
    OnRest (λ h.
    (c : Call) → is_operation c.op ≡ true → (p : ℕ) → rests (operated h c).hub p ≡ true)
