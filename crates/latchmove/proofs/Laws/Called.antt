-- A whole call: what is refused before the table is asked, and what is decided, stored and tidied.
use Prim.Native.Nat.{ℕ, ◌≤◌}
use mathlib.Core.Path.{◌≡◌, sym, ap, ap₂, ◌∙◌}
use mathlib.Core.Bool.{Bool, true, false, ◌&&◌}
use native.Mathlib.Omega.{arith}
use borrow.Author.Tests.{leb-true}
use lib.Dec.{leb, ltb}
use Rattle.hub.specs.declared.answers.Answer.{Answer}
use Rattle.hub.specs.declared.answers.Refusal.{Refusal}
use Rattle.hub.specs.declared.record.PlaceSlot.{PlaceSlot}
use Rattle.hub.specs.Answers.{printed}
use Rattle.hub.specs.Basics.{all_from}
use Rattle.hub.specs.Record.{MAX_BEGUN, PARTIES}
use Rattle.hub.specs.Ring.{PLACES}
use Rattle.hub.proofs.Laws.Bools.{clause, first, second}
use Rattle.latch.specs.declared.moves.LatchCall.{LatchCall}
use Rattle.latch.specs.declared.moves.LatchOp.{LatchOp}
use Rattle.latch.specs.declared.record.Latch.{Latch}
use Rattle.latch.specs.declared.record.LatchOutcome.{LatchOutcome}
use Rattle.latch.specs.declared.record.LatchSlot.{LatchSlot}
use Rattle.latch.specs.Calls.{answer_of, apply, called, checked, is_full}
use Rattle.latch.specs.Fits.{fits, figures_clauses, figures_fit, party_fits, place_fits}
use Rattle.latch.specs.Look.{look}
use Rattle.latch.specs.Moves.{Move}
use Rattle.latch.specs.Table.{decide}
use Rattle.latcheffect.specs.declared.effect.LatchEffect.{LatchEffect}
use Rattle.latcheffect.specs.Effect.{effect_by, effect_of}
use Rattle.latchmove.specs.Tidied.{tidied_by}
use Rattle.latchmove.proofs.Laws.Sight.{Reads, looked, sight_of}
use Rattle.latchmove.proofs.Laws.Stored.{applied, stored, told}

abbrev pub asks : LatchOp → ℕ → LatchCall
asks o p = record { op = o; party = p }

-- A promise that gives the outcome gives what is printed for it.
pub with-printed : {o d : LatchOutcome} → o ≡ d
    → (o ≡ d) × (printed o.answer ≡ printed d.answer)
with-printed e = (e, ap (λ (o : LatchOutcome). printed o.answer) e)

-- What a move answers and leaves.
abbrev outcome : Latch → ℕ → Move → LatchOutcome
outcome h p m = record { answer = answer_of m; latch = apply h (look h p) m }

abbrev full : Latch → Bool
full h = is_full h.oldest h.figures.issued h.slots

-- Refused by 1, and by 4; the record stays as it was.
pub unfit : (h : Latch) (p : ℕ) (o : LatchOp) → fits h ≡ false
    → record { answer = Answer.Refused Refusal.Unfit; latch = h } ≡ called h (asks o p)
unfolding checked apply
unfit h p o e =
    sym (ap (λ (a : Bool).
    outcome h p (checked a (ltb p h.parties) (decide o (full h) (look h p)))) e)

pub no-such-party : (h : Latch) (p : ℕ) (o : LatchOp) → fits h ≡ true → ltb p h.parties ≡ false
    → record { answer = Answer.Refused Refusal.NoSuchParty; latch = h } ≡ called h (asks o p)
unfolding checked apply
no-such-party h p o e f =
    sym (ap₂ (λ (a b : Bool). outcome h p (checked a b (decide o (full h) (look h p)))) e f)

-- A call that neither refuses does what is decided.
pub admitted : (h : Latch) (p : ℕ) (o : LatchOp) → fits h ≡ true → ltb p h.parties ≡ true
    → outcome h p (decide o (full h) (look h p)) ≡ called h (asks o p)
unfolding checked
admitted h p o e f =
    sym (ap₂ (λ (a b : Bool). outcome h p (checked a b (decide o (full h) (look h p)))) e f)

-- The figures of a record that fits.
pub record Counted (h : Latch) : Type 0 where
  pub parties : h.parties ≤ 32
  pub waiters : h.figures.waiters ≤ 32
  pub issued : h.figures.issued ≤ MAX_BEGUN
  pub resumed : h.figures.resumed ≤ MAX_BEGUN
  pub oldest : h.oldest ≤ MAX_BEGUN

pub counted : (h : Latch) → fits h ≡ true → Counted h
unfolding fits figures_fit
counted h e =
    let parties = all_from (party_fits h) 0 PARTIES in
    let places = all_from (place_fits h) h.oldest PLACES in
    let f = figures_fit h.parties h.figures h.oldest in
    let all = first f parties (first (f && parties) places e) in
    let cs = figures_clauses h.parties h.figures h.oldest in
    let n = clause 0 cs all in
    let i = leb-true h.figures.issued MAX_BEGUN (clause 4 cs all) in
    let o = leb-true h.oldest h.figures.issued (clause 6 cs all) in
    record {
      parties = leb-true h.parties 32 (second (leb 1 h.parties) _ n);
      waiters = leb-true h.figures.waiters 32 (clause 2 cs all);
      issued = i;
      resumed = leb-true h.figures.resumed MAX_BEGUN (clause 5 cs all);
      oldest = omega arith;
    }

module _ (h : Latch) (p : ℕ) (seat : PlaceSlot) (q : ℕ) (waiter : LatchSlot)
    (r : Reads h p seat q waiter) where
  -- The effect e that was decided from what is seen.
  module _ (o : LatchOp) (e : LatchEffect)
      (is : e ≡ effect_by o (full h) (sight_of h p seat waiter)) where
    abbrev pub move : Move
    move = decide o (full h) (look h p)

    effect : e ≡ effect_of move (look h p)
    unfolding effect_by
    effect = is ∙ ap (effect_by o (full h)) (looked h p seat q waiter r)

    pub said : e.answer ≡ answer_of move
    said = ap (λ (e : LatchEffect). e.answer) effect ∙ told move (look h p)

    pub left : tidied_by e.turns (stored h p e) ≡ apply h (look h p) move
    left =
        ap (λ (e : LatchEffect). tidied_by e.turns (stored h p e)) effect
        ∙ applied h p r.size move

    -- What the call answers and leaves, where the record fits and has the party.
    pub outcome-is : fits h ≡ true → ltb p h.parties ≡ true → (g : Latch)
        → g ≡ tidied_by e.turns (stored h p e)
        → record { answer = e.answer; latch = g } ≡ called h (asks o p)
    outcome-is f n g eg =
        ap₂ (λ (a : Answer) (g : Latch). record { answer = a; latch = g }) said (eg ∙ left)
        ∙ admitted h p o f n
