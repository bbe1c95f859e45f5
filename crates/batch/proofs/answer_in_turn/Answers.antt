-- `answer_in_turn` meets its contract: the record made of its parts is that of the requests so
-- far, and what is written with what is still to come is the whole.
use mathlib.Core.Path.{◌≡◌, refl, sym, ap, ◌∙◌}
use mathlib.Core.Bool.{Bool, cond}
use mathlib.Core.List.{List}
use native.Mathlib.Omega.{arith}
use Prim.Native.Nat.{ℕ, ◌+◌, ◌*◌, ◌%◌, ◌≤◌}
use lib.Dec.{ltb}
use lib.ListN.{length, get_or, set}
use Rattle.hub.specs.declared.answers.Answer.{Answer}
use Rattle.hub.specs.declared.moves.Op.{Op}
use Rattle.hub.specs.declared.moves.Sight.{Sight}
use Rattle.hub.specs.declared.record.Hub.{Hub}
use Rattle.hub.specs.declared.record.PartySlot.{PartySlot}
use Rattle.hub.specs.declared.record.PlaceSlot.{PlaceSlot}
use Rattle.hub.specs.Answers.{plain, printed}
use Rattle.hub.specs.Calls.{answer_of, apply, is_full, ring_of, with_ring}
use Rattle.hub.specs.Kinds.{kind_in}
use Rattle.hub.specs.Look.{look}
use Rattle.hub.specs.Moves.{Move}
use Rattle.hub.specs.Phases.{ticket_of}
use Rattle.hub.specs.Radios.{hand_of}
use Rattle.hub.specs.Record.{PARTIES, control_of, empty_seat, free_slot, of_fields, read_slot, with_pool, write_slot}
use Rattle.hub.specs.Ring.{PLACES, read_seat}
use Rattle.hub.specs.Table.{decide}
use Rattle.encoding.specs.Frame.{frame_of, op_of}
use Rattle.encoding.specs.Form.{reply_size}
use Rattle.line.specs.Program.{respond}
use Rattle.effects.specs.declared.effect.Effect.{Effect}
use Rattle.effects.specs.Effect.{effect_of}
use Rattle.transition.specs.Tidied.{tidied_by}
use Rattle.transition.proofs.Laws.Called.{asks, radios_after, said, left}
use Rattle.transition.proofs.Laws.Indexed.{reads, stores}
use Rattle.transition.proofs.Laws.Loops.{tidy}
use Rattle.transition.proofs.Laws.Radios.{with-radios, without-radios}
use Rattle.transition.proofs.Laws.Sight.{Reads, sight_of}
use Rattle.transition.proofs.Laws.Stored.{nobody, still, few-turns}
use Rattle.exchange.specs.Decision.{waiter_by}
use Rattle.exchange.specs.Wire.{with_reply}
use Rattle.batch.specs.Batch.{of_parts}
use Rattle.batch.proofs.Laws.Answered.{is-admitted, refused-response, LetIn}
use Rattle.batch.proofs.Laws.Answered.{effect-asked, let-in, call-response}
use Rattle.batch.proofs.Laws.Responses.{Upto, request_at}
use Rattle.batch.proofs.Laws.Responses.{responded, ended}
use Rattle.batch.specs.Batch.{Reachable}
use Rattle.exchange.specs.declared.admission.Unasked.{Unasked}
use Rattle.hub.specs.declared.moves.Call.{Call}
use Rattle.line.specs.Requests.{to_call}
use Rattle.std.specs.Prelude.{Result, Ok}
use Rattle.exchange.specs.Admission.{admission_of}
use mathlib.Core.Bool.{true}
use Rattle.batch.proofs.answer_in_turn.Given.{Over}
use Rattle.batch.proofs.answer_in_turn.Goals as goal
use Rattle.batch.proofs.answer_in_turn.Goals.{After-is_untidy, then-woken-lt32, else-woken-lt32, then-opening, else-opening}

-- The party of a call that is admitted, by what is answered of it.
let_in_by : (h : Hub) → Reachable h → (c x : ℕ) (r : Result (Unit {0}) Unasked)
    → r ≡ admission_of c x h.control.opening.parties → r ≡ Ok (tt {0})
    → (code party : ℕ) → code ≡ c → party ≡ x → LetIn h party
let_in_by h reached c x r e t code party p q =
    let-in h c x reached (asks (op_of code) party)
    (is-admitted c x h.control.opening.parties r e t code party p q).0

pub loop-i-preserved-in-Err : goal.loop-i-preserved-in-Err
loop-i-preserved-in-Err g c = let u = c.loop-i.invariant.0 in (
  responded _ _ _ _ _ _ _ _ u c.loop-i-test.true _ _ _
      (refused-response _ _ _ u.reachable _ _ c.admit_at.ensures c.in-Err.is)
      (c.put_refusal.ensures
      ∙ (λ j.
      with_reply g.F.Form.form (reply_size g.F.Form.form * c.loop-i.i)
      (frame_of (c.party.ensures j) (plain (c.code.ensures j)))
      c.loop-i.out)) refl,
  c.loop-i.invariant.1,
)

pub bounds-slots-own : goal.bounds-slots-own
bounds-slots-own g c =
    let admitted = let_in_by _ c.loop-i.invariant.0.reachable _ _ _ c.admit_at.ensures c.in-Ok.is _ _ c.code_at-code.ensures c.party_at-party.ensures in
    omega (arith, admitted.party)

pub full_by-full-requires : goal.full_by-full-requires
full_by-full-requires g c =
    let admitted = let_in_by _ c.loop-i.invariant.0.reachable _ _ _ c.admit_at.ensures c.in-Ok.is _ _ c.code_at-code.ensures c.party_at-party.ensures in
    (admitted.counts.oldest, admitted.counts.issued)

pub bounds-kinds-own : goal.bounds-kinds-own
bounds-kinds-own g c =
    let admitted = let_in_by _ c.loop-i.invariant.0.reachable _ _ _ c.admit_at.ensures c.in-Ok.is _ _ c.code_at-code.ensures c.party_at-party.ensures in
    omega (arith, admitted.party)

pub bounds-pool-own : goal.bounds-pool-own
bounds-pool-own g c =
    let admitted = let_in_by _ c.loop-i.invariant.0.reachable _ _ _ c.admit_at.ensures c.in-Ok.is _ _ c.code_at-code.ensures c.party_at-party.ensures in
    omega (arith, admitted.party)

pub decide_for-e-requires : goal.decide_for-e-requires
decide_for-e-requires g c =
    let admitted = let_in_by _ c.loop-i.invariant.0.reachable _ _ _ c.admit_at.ensures c.in-Ok.is _ _ c.code_at-code.ensures c.party_at-party.ensures in
    let n = admitted.counts in
    record { counter = n.counter; issued = n.issued; resumed = n.resumed }

pub bounds-slots-own-in-loop-i : goal.bounds-slots-own-in-loop-i
bounds-slots-own-in-loop-i g c =
    let admitted = let_in_by _ c.loop-i.invariant.0.reachable _ _ _ c.admit_at.ensures c.in-Ok.is _ _ c.code_at-code.ensures c.party_at-party.ensures in
    omega (arith, admitted.party)

pub radios_after-pool-requires : goal.radios_after-pool-requires
radios_after-pool-requires g c =
    let admitted = let_in_by _ c.loop-i.invariant.0.reachable _ _ _ c.admit_at.ensures c.in-Ok.is _ _ c.code_at-code.ensures c.party_at-party.ensures in
    admitted.store c.if-opening.true

-- Once `is_untidy` has answered, a turn ends in one of two ways: there is nothing to tidy, or
-- `reclaim` tidies. What holds before they part is said here once, of that place in the code, and
-- both cite it.

module _ (g : Over) where
  -- The record at the head of a turn, and the request.
  abbrev hub : After-is_untidy g → Hub
  hub c = of_parts c.args.opening c.loop-i.figures c.loop-i.ring c.loop-i.slots c.loop-i.pool

  abbrev hub₀ : After-is_untidy g → Hub
  hub₀ c = let a = c.args in of_parts a.opening a.figures a.ring a.slots a.pool

  abbrev bytes : After-is_untidy g → List ℕ
  bytes c = c.args.requests.now

  abbrev call : After-is_untidy g → Call
  call c = asks (op_of c.code_at-code.result) c.party_at-party.result

  abbrev party : After-is_untidy g → ℕ
  party c = (call c).party

  -- The call is admitted.
  pass : (c : After-is_untidy g)
      → (ltb (party c) (hub c).control.opening.parties ≡ true)
      × (request_at (bytes c) (2 * c.loop-i.i) ≡ to_call (call c))
  pass c = is-admitted _ _ _ _ c.admit_at.ensures c.in-Ok.is _ _ c.code_at-code.ensures c.party_at-party.ensures

  -- What the code read for it is what the party sees.
  abbrev place_index : After-is_untidy g → ℕ
  place_index c = c.seat_index-t.result

  abbrev seat : After-is_untidy g → PlaceSlot
  seat c = get_or (hub c).places (place_index c) empty_seat

  abbrev near : After-is_untidy g → PartySlot
  near c = get_or c.loop-i.slots (c.waiter_at-q.result % PARTIES) free_slot

  abbrev waiter : After-is_untidy g → PartySlot
  waiter c = waiter_by (seat c) (near c)

  index : (c : After-is_untidy g) → place_index c ≡ ticket_of (read_slot (hub c).slots (party c)).phase % PLACES
  unfolding read_slot
  index c = c.seat_index-t.ensures

  reading : (c : After-is_untidy g) → Reads (hub c) (party c) (seat c) c.waiter_at-q.result (waiter c)
  unfolding read_slot
  reading c =
      reads (hub c) (party c) _ (index c) _ _
      c.loop-i.invariant.1 c.waiter_at-q.ensures
      (ap (λ (q : ℕ). cond (ltb q PARTIES) (near c) free_slot) (sym c.waiter_at-q.ensures))

  -- The effect is that of the call.
  abbrev op : After-is_untidy g → Op
  op c = (call c).op

  abbrev full : After-is_untidy g → Bool
  full c = is_full c.loop-i.ring.oldest c.loop-i.figures.issued c.loop-i.slots

  abbrev sight : After-is_untidy g → Sight
  sight c = sight_of (hub c) (party c) (seat c) (waiter c)

  abbrev effect : After-is_untidy g → Effect
  effect c = c.decide_for-e.result

  effect_is : (c : After-is_untidy g) → effect c ≡ effect_of (decide (op c) (full c) (sight c)) (sight c)
  unfolding read_slot kind_in hand_of
  effect_is c = effect-asked (op c) (full c) _ (sight c) _ c.decide_for-e.ensures c.full_by-full.ensures

  turns-most : (c : After-is_untidy g) → (effect c).turns ≤ 256
  turns-most c = few-turns (decide (op c) (full c) (sight c)) (sight c) (effect c) (effect_is c)

  -- What the call answers, and the record that it leaves.
  abbrev move : After-is_untidy g → Move
  move c = decide (op c) (full c) (look (hub c) (party c))

  abbrev leaving : After-is_untidy g → Hub
  leaving c =
      with_pool (radios_after (hub c) (party c) (answer_of (move c)))
      (apply (hub c) (look (hub c) (party c)) (move c))

  answered : (c : After-is_untidy g)
      → respond (hub c) (request_at (bytes c) (2 * c.loop-i.i))
      ≡ record {
        reply = record { party = party c; answer = printed (answer_of (move c)) };
        hub = leaving c;
      }
  answered c =
      ap (respond (hub c)) (pass c).1
      ∙ call-response _ 0 0 c.loop-i.invariant.0.reachable (call c) (pass c).0

  -- The record that the tidying starts from.
  abbrev untidied : After-is_untidy g → Hub
  untidied c =
      of_fields (set c.loop-i.ring.places (place_index c) (effect c).seat)
      (write_slot c.if-woken-lt32.slots (party c) (effect c).slot)
      (control_of (hub c).control.opening (effect c).figures c.loop-i.ring.oldest c.if-opening.pool)

  woken-slots : (c : After-is_untidy g)
      → c.if-woken-lt32.slots ≡ write_slot c.loop-i.slots (effect c).woken (effect c).waiter
  unfolding write_slot
  woken-slots c =
      elim c.if-woken-lt32.branch [
        | then-woken-lt32 w ↦ w.slots-is
        | else-woken-lt32 w ↦
            w.slots-is
            ∙ nobody c.loop-i.slots (effect c).woken (effect c).waiter
            (omega (arith, c.loop-i.invariant.1, w.if-woken-lt32.false))
      ]

  -- The answer moved a radio, on a hub with radios.
  moved-pool : (c : After-is_untidy g) → c.if-opening.pool ≡ radios_after (hub c) (party c) (effect c).answer
  moved-pool c =
      elim c.if-opening.branch [
        | then-opening w ↦ with-radios _ _ _ _ _ w.if-opening.true (w.pool-is ∙ w.radios_after-pool.ensures)
        | else-opening w ↦ w.pool-is ∙ without-radios _ _ _ _ w.if-opening.false
      ]

  -- What is left, once it is tidied, is what the call leaves.
  leaves : (c : After-is_untidy g) (u : Hub) → u ≡ tidied_by (effect c).turns (untidied c) → u ≡ leaving c
  unfolding read_slot
  leaves c u e =
      e
      ∙ ap (λ (g : Hub). tidied_by (effect c).turns (with_pool (untidied c).control.pool g))
      (stores (hub c) (party c) _ (index c) (effect c) _ (woken-slots c))
      ∙ left _ _ _ _ _ (reading c) (op c) (effect c) (effect_is c) (untidied c).control.pool (moved-pool c)

  -- The slots stay as many.
  still-32 : (c : After-is_untidy g) → length (untidied c).slots ≡ 32
  still-32 c =
      still c.loop-i.slots _ (effect c).woken (party c) (effect c).waiter (effect c).slot (woken-slots c)
      ∙ c.loop-i.invariant.1

  -- What was written is what the call answers.
  abbrev with_answer : After-is_untidy g → Answer → List ℕ
  with_answer c a =
      let form = g.F.Form.form in
      with_reply form (reply_size form * c.loop-i.i) (frame_of (party c) (printed a)) c.loop-i.out

  replied-with : (c : After-is_untidy g) → c.put_answer.new.out ≡ with_answer c (answer_of (move c))
  replied-with c =
      c.put_answer.ensures
      ∙ ap (with_answer c) (said _ _ _ _ _ (reading c) (op c) (effect c) (effect_is c))

  -- One more request is answered: its reply is written, and u is the record that is left.
  one_more : (c : After-is_untidy g) (u : Hub) → u ≡ tidied_by (effect c).turns (untidied c)
      → Upto g.F.Form.form (hub₀ c) c.args.count (bytes c) c.args.out.now u c.put_answer.new.out
      (c.loop-i.i + 1)
  one_more c u e =
      responded _ _ _ _ _ _ _ _ c.loop-i.invariant.0 c.loop-i-test.true _ _ _
      (answered c) (replied-with c) (leaves c u e)

pub loop-i-preserved-then-not-is_untidy : goal.loop-i-preserved-then-not-is_untidy
unfolding read_seat write_slot
loop-i-preserved-then-not-is_untidy g c =
    let s = (goal.at.loop-i-preserved-then-not-is_untidy g c).After-is_untidy in
    let nothing =
    tidy (effect g s).turns (ring_of (untidied g s)) (sym s.is_untidy.ensures ∙ c.if-not-is_untidy.true) in
    (one_more g s _ (ap (with_ring (untidied g s)) nothing), still-32 g s)

pub reclaim-ring-requires : goal.reclaim-ring-requires
reclaim-ring-requires g c =
    let s = (goal.at.reclaim-ring-requires g c).After-is_untidy in
    let admitted = let-in _ 0 0 s.loop-i.invariant.0.reachable (call g s) (pass g s).0 in
    (admitted.counts.oldest, turns-most g s)

pub loop-i-preserved : goal.loop-i-preserved
unfolding write_slot
loop-i-preserved g c =
    let s = (goal.at.loop-i-preserved g c).After-is_untidy in
    (one_more g s _ (ap (with_ring (untidied g s)) c.reclaim-ring.ensures), still-32 g s)

pub returns : goal.returns
returns g c =
    let e = ended _ _ _ _ _ _ _ _ c.loop-i.invariant.0 c.loop-i-test.false in
    (e.0, e.1)
