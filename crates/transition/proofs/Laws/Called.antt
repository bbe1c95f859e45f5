-- A whole call: what is refused before the table is asked, and what is decided, stored and tidied.
use Prim.Native.Nat.{ℕ, ◌≤◌}
use mathlib.Core.Path.{◌≡◌, refl, sym, ap, ap₂, ◌∙◌}
use mathlib.Core.Bool.{Bool, true, false, ◌&&◌}
use native.Mathlib.Omega.{arith}
use borrow.Author.Tests.{leb-true}
use lib.Dec.{leb, ltb}
use Rattle.hub.specs.declared.answers.Answer.{Answer}
use Rattle.hub.specs.declared.answers.Refusal.{Refusal}
use Rattle.hub.specs.declared.moves.Call.{Call}
use Rattle.hub.specs.declared.moves.Op.{Op}
use Rattle.hub.specs.declared.record.Hub.{Hub}
use Rattle.hub.specs.declared.record.Outcome.{Outcome}
use Rattle.hub.specs.declared.record.PartySlot.{PartySlot}
use Rattle.hub.specs.declared.record.PlaceSlot.{PlaceSlot}
use Rattle.hub.specs.declared.record.Pool.{Pool}
use Rattle.hub.specs.Answers.{printed}
use Rattle.hub.specs.Basics.{all_from}
use Rattle.hub.specs.Calls.{answer_of, apply, called, checked, is_full}
use Rattle.hub.specs.Fits.{fits, figures_clauses, figures_fit, counter_fits, party_fits, place_fits, radios_fit}
use Rattle.hub.specs.Fits.{kinds_fit, state_fits}
use Rattle.hub.specs.Look.{look, seen_by}
use Rattle.hub.specs.Moves.{Move, Refuse}
use Rattle.hub.specs.Radios.{pool_after}
use Rattle.hub.specs.Phases.{ticket_of}
use Rattle.hub.specs.Record.{MAX_BEGUN, PARTIES, read_slot, with_pool}
use Rattle.hub.specs.Ring.{PLACES, read_seat}
use Rattle.hub.specs.Table.{decide}
use Rattle.hub.proofs.Laws.Bools.{clause, first, never, second}
use Rattle.hub.proofs.Laws.Phases.{ticketed}
use Rattle.effects.specs.declared.effect.Effect.{Effect}
use Rattle.effects.specs.Effect.{effect_of}
use Rattle.effects.specs.Small.{Small}
use Rattle.transition.specs.Tidied.{tidied_by}
use Rattle.transition.proofs.Laws.Radios.{refused-pool}
use Rattle.transition.proofs.Laws.Sight.{Reads, looked, sight_of}
use Rattle.transition.proofs.Laws.Stored.{applied, stored, told}
use Rattle.transition.proofs.Laws.Unseen.{touches, unseen}

abbrev pub asks : Op → ℕ → Call
asks o p = record { op = o; party = p }

-- The radios once party p is answered y.
abbrev pub radios_after : Hub → ℕ → Answer → Pool
radios_after h p y = pool_after h.control.opening.named (printed y) p h.control.pool

-- What a move answers and leaves.
abbrev outcome : Hub → ℕ → Move → Outcome
outcome h p m =
    record {
      answer = answer_of m;
      hub = with_pool (radios_after h p (answer_of m)) (apply h (look h p) m);
    }

abbrev full : Hub → Bool
full h = is_full h.control.oldest h.control.figures.issued h.slots

-- A refusal leaves the record as it was.
refusal : (h : Hub) (p : ℕ) (r : Refusal)
    → record { answer = Answer.Refused r; hub = h } ≡ outcome h p (Refuse r)
unfolding apply
refusal h p r =
    ap (λ (q : Pool). record { answer = Answer.Refused r; hub = with_pool q h })
    (sym (refused-pool h.control.opening.named r p h.control.pool))

-- Refused by 1, and by 4.
pub unfit : (h : Hub) (p : ℕ) (o : Op) → fits h ≡ false
    → record { answer = Answer.Refused Refusal.Unfit; hub = h } ≡ called h (asks o p)
unfolding checked
unfit h p o e =
    refusal h p Refusal.Unfit
    ∙ sym (ap (λ (a : Bool).
    outcome h p (checked a (ltb p h.control.opening.parties) (decide o (full h) (look h p)))) e)

pub no-such-party : (h : Hub) (p : ℕ) (o : Op) → fits h ≡ true → ltb p h.control.opening.parties ≡ false
    → record { answer = Answer.Refused Refusal.NoSuchParty; hub = h } ≡ called h (asks o p)
unfolding checked
no-such-party h p o e f =
    refusal h p Refusal.NoSuchParty
    ∙ sym (ap₂ (λ (a b : Bool).
    outcome h p (checked a b (decide o (full h) (look h p)))) e f)

-- A call that neither refuses does what is decided.
pub admitted : (h : Hub) (p : ℕ) (o : Op) → fits h ≡ true → ltb p h.control.opening.parties ≡ true
    → outcome h p (decide o (full h) (look h p)) ≡ called h (asks o p)
unfolding checked
admitted h p o e f =
    sym (ap₂ (λ (a b : Bool).
    outcome h p (checked a b (decide o (full h) (look h p)))) e f)

-- The figures of a record that fits.
pub record Counted (h : Hub) : Type 0 where
  pub permits : (1 ≤ h.control.opening.permits) × (h.control.opening.permits ≤ 32)
  pub parties : h.control.opening.parties ≤ 32
  pub counter : counter_fits h.control.figures.counter ≡ true
  pub issued : h.control.figures.issued ≤ MAX_BEGUN
  pub resumed : h.control.figures.resumed ≤ MAX_BEGUN
  pub oldest : h.control.oldest ≤ MAX_BEGUN

pub counted : (h : Hub) → fits h ≡ true → Counted h
unfolding fits state_fits figures_fit
counted h e =
    let parties = all_from (party_fits h) 0 PARTIES in
    let places = all_from (place_fits h) h.control.oldest PLACES in
    let f = figures_fit h.control.opening h.control.figures h.control.oldest in
    let state = first (state_fits h) (kinds_fit h.control.opening) e in
    let all = first f parties (first (f && parties) places (first (f && parties && places) (radios_fit h) state)) in
    let cs = figures_clauses h.control.opening h.control.figures h.control.oldest in
    let k = clause 0 cs all in
    let n = clause 1 cs all in
    let i = leb-true h.control.figures.issued MAX_BEGUN (clause 4 cs all) in
    let o = leb-true h.control.oldest h.control.figures.issued (clause 6 cs all) in
    record {
      permits = (
        leb-true 1 h.control.opening.permits (first (leb 1 h.control.opening.permits) _ k),
        leb-true h.control.opening.permits 32 (second (leb 1 h.control.opening.permits) _ k),
      );
      parties = leb-true h.control.opening.parties 32 (second (leb 1 h.control.opening.parties) _ n);
      counter = clause 2 cs all;
      issued = i;
      resumed = leb-true h.control.figures.resumed MAX_BEGUN (clause 5 cs all);
      oldest = omega arith;
    }

module _ (h : Hub) (p : ℕ) (seat : PlaceSlot) (q : ℕ) (waiter : PartySlot)
    (r : Reads h p seat q waiter) where
  -- What is seen of a record that fits leaves room for one more.
  pub small : Counted h → Small (sight_of h p seat waiter)
  small n = record { counter = n.counter; issued = n.issued; resumed = n.resumed }

  -- The effect e that was decided from it.
  module _ (o : Op) (e : Effect)
      (is : e ≡ effect_of (decide o (full h) (sight_of h p seat waiter)) (sight_of h p seat waiter)) where
    abbrev pub move : Move
    move = decide o (full h) (look h p)

    -- It is decided as from what the party looks at.
    same : (b : Bool) → ticketed (read_slot h.slots p).phase ≡ b
        → (decide o (full h) (sight_of h p seat waiter) ≡ move)
        × ((touches move ≡ true) → ticketed (read_slot h.slots p).phase ≡ true)
    unfolding seen_by
    same true has = (ap (decide o (full h)) (looked h p seat q waiter r has), λ t. has)
    same false has =
        let u = unseen seat waiter (look h p) o (full h) has in
        (u.0, λ t. never (sym t ∙ u.1))

    effect : e ≡ effect_of move (sight_of h p (read_seat h.places (ticket_of (read_slot h.slots p).phase)) waiter)
    effect =
        is
        ∙ ap₂ (λ (m : Move) (a : PlaceSlot). effect_of m (sight_of h p a waiter)) (same _ refl).0 r.place

    pub said : e.answer ≡ answer_of move
    said = ap (λ (e : Effect). e.answer) effect ∙ told move _

    -- The radios are moved by the answer, before the tidying or after it.
    pub left : (x : Pool) → x ≡ radios_after h p e.answer
        → tidied_by e.turns (with_pool x (stored h p e))
        ≡ with_pool (radios_after h p (answer_of move)) (apply h (look h p) move)
    left x ex =
        ap₂ with_pool (ex ∙ ap (radios_after h p) said)
        (ap (λ (e : Effect). tidied_by e.turns (stored h p e)) effect
        ∙ applied h p r.size waiter move (same _ refl).1)

    -- What the call answers and leaves, where the record fits and has the party.
    pub outcome-is : fits h ≡ true → ltb p h.control.opening.parties ≡ true → (x : Pool)
        → x ≡ radios_after h p e.answer → (g : Hub)
        → g ≡ tidied_by e.turns (with_pool x (stored h p e))
        → record { answer = e.answer; hub = g } ≡ called h (asks o p)
    outcome-is f n x ex g eg =
        ap₂ (λ (a : Answer) (g : Hub). record { answer = a; hub = g }) said (eg ∙ left x ex)
        ∙ admitted h p o f n
