-- What an operation comes to on a hub at rest, laid out flat, with what was seen where it changes nothing.
use Rattle.std.specs.Prelude.{ℕ, ◌+◌, Bool, true, false, cond, eqb, leb}
use Rattle.std.proofs.Math.IntN.{suc_ℤ, pred_ℤ}
use Rattle.hub.specs.declared.answers.Answer.{Answer}
use Rattle.hub.specs.declared.moves.Op.{Op}
use Rattle.hub.specs.declared.record.Figures.{Figures}
use Rattle.hub.specs.declared.record.Phase.{Phase}
use Rattle.hub.specs.declared.record.Place.{Place}
use Rattle.hub.specs.Phases.{by_waiter, is_free, is_holding, is_waiting, ticket_of}
use Rattle.hub.specs.Record.{MAX_BEGUN, with_phase, with_place}
use Rattle.hub.specs.Ring.{PLACES}
use Rattle.hub.specs.Table.{above_zero, below_zero, with_begun, with_counter, with_issued, with_resumed}
use Rattle.plan.specs.declared.Plan.{Plan}
use Rattle.plan.specs.declared.Seen.{Seen}

-- By the code of an operation: 10, 12, and what is left of the three.
abbrev pub by_code : {A : Type 0} → A → A → A → ℕ → A
by_code ask giveUp giveBack c = cond (eqb c 0x10) ask (cond (eqb c 0x12) giveUp giveBack)

abbrev pub operation_of : ℕ → Op
operation_of = by_code Op.Acquire Op.Cancel Op.Release

-- The ticket whose place it is about.
abbrev pub ticket_for : ℕ → Phase → Figures → ℕ
ticket_for c x f = by_code f.issued (ticket_of x) f.resumed c

-- The figures after an ask, with the next ticket t; after a give-up or a give-back, with the next to resume t.
abbrev pub after_acquire : ℕ → Figures → Figures
after_acquire t f = with_counter (pred_ℤ f.counter) (with_issued t (with_begun (f.begun + 1) f))

abbrev pub after_return : ℕ → Figures → Figures
after_return t f = with_counter (suc_ℤ f.counter) (with_resumed t f)

abbrev pub refused_by : ℕ → Seen → Plan
refused_by c s =
    record {
      code = c;
      woken = 0xFF;
      steps = 0;
      turns = 0;
      figures = s.figures;
      slot = s.slot;
      seat = s.seat;
    }

-- One step, and one more for the radio of a hub that has some; the party's phase becomes x, and no place changes.
abbrev pub short : Figures → Phase → Seen → Plan
short f x s =
    record {
      code = 0x20;
      woken = 0xFF;
      steps = cond s.named 2 1;
      turns = 0;
      figures = f;
      slot = with_phase x s.slot;
      seat = s.seat;
    }

-- Ask: is the party free; have 1,000,000 begun; is there no place for one more ticket; is a permit at the counter?
unfoldable pub plan_acquire : Bool → Bool → Bool → Bool → Seen → Plan
plan_acquire false b full a s = refused_by 5 s
plan_acquire true true full a s = refused_by 6 s
plan_acquire true false true a s = refused_by 7 s
plan_acquire true false false true s =
    short (after_acquire s.figures.issued s.figures) Phase.Holding s
plan_acquire true false false false s =
    let t = s.figures.issued in
    record {
      code = 0x20;
      woken = 0xFF;
      steps = 3;
      turns = 0;
      figures = after_acquire (t + 1) s.figures;
      slot = with_phase (Phase.Waiting t) s.slot;
      seat = with_place (Place.Waiting s.party) s.seat;
    }

-- Give up: does the party wait; is its kind 3?
unfoldable pub plan_cancel : Bool → Bool → Seen → Plan
plan_cancel false k s = refused_by 9 s
plan_cancel true true s = refused_by 10 s
plan_cancel true false s =
    record {
      code = 0x20;
      woken = 0xFF;
      steps = 2;
      turns = PLACES;
      figures = after_return s.figures.resumed s.figures;
      slot = with_phase Phase.Free s.slot;
      seat = with_place Place.Cancelled s.seat;
    }

-- Give back: does the party hold; does anybody wait?
unfoldable pub plan_release : Bool → Bool → Seen → Plan
plan_release false b s = refused_by 11 s
plan_release true false s = short (after_return s.figures.resumed s.figures) Phase.Free s
plan_release true true s =
    record {
      code = 0x20;
      woken = by_waiter 0xFF (λ q. q) s.seat.place;
      steps = 3;
      turns = PLACES;
      figures = after_return (s.figures.resumed + 1) s.figures;
      slot = with_phase Phase.Free s.slot;
      seat = with_place Place.Done s.seat;
    }

abbrev pub plan_of : ℕ → Bool → Seen → Plan
plan_of c full s =
    by_code
    (plan_acquire (is_free s.slot.phase) (leb MAX_BEGUN s.figures.begun) full
    (above_zero s.figures.counter) s)
    (plan_cancel (is_waiting s.slot.phase) (eqb s.kind 3) s)
    (plan_release (is_holding s.slot.phase) (below_zero s.figures.counter) s)
    c

-- On a hub with radios: the answer that the radio goes by, which the steps tell.
abbrev pub radio_by : ℕ → ℕ → ℕ → Answer
radio_by c steps woken =
    by_code
    (cond (eqb steps 2) Answer.Fetched Answer.Accepted)
    Answer.Accepted
    (cond (eqb steps 3) (Answer.Woke woken 0) (cond (eqb steps 2) Answer.Stored Answer.Accepted))
    c
