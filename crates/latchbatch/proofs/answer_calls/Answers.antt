-- `answer_calls` meets its contract: the record made of the locals is that of the calls so far, and what is
-- written with what is still to come is the whole.
use mathlib.Core.Path.{◌≡◌, refl, sym, ap, ◌∙◌}
use mathlib.Core.Bool.{Bool}
use mathlib.Core.List.{List}
use native.Mathlib.Omega.{arith}
use Prim.Native.Nat.{ℕ, ◌+◌, ◌*◌, ◌%◌, ◌≤◌}
use lib.ListN.{length, get_or, set}
use Rattle.hub.specs.declared.answers.Answer.{Answer}
use Rattle.hub.specs.declared.record.PlaceSlot.{PlaceSlot}
use Rattle.hub.specs.Answers.{printed}
use Rattle.hub.specs.Kinds.{kind_in}
use Rattle.hub.specs.Phases.{ticket_of}
use Rattle.hub.specs.Ring.{PLACES, read_seat}
use Rattle.encoding.specs.Frame.{frame_of}
use Rattle.transition.proofs.Laws.Loops.{tidy}
use Rattle.latch.specs.declared.moves.LatchCall.{LatchCall}
use Rattle.latch.specs.declared.moves.LatchOp.{LatchOp}
use Rattle.latch.specs.declared.moves.LatchSight.{LatchSight}
use Rattle.latch.specs.declared.record.Latch.{Latch}
use Rattle.latch.specs.declared.record.LatchSlot.{LatchSlot}
use Rattle.latch.specs.Calls.{answer_of, apply, called, is_full, ring_of, with_ring}
use Rattle.latch.specs.Look.{look}
use Rattle.latch.specs.Moves.{Move}
use Rattle.latch.specs.Record.{of_fields, read_slot, write_slot}
use Rattle.latch.specs.Table.{decide}
use Rattle.latcheffect.specs.declared.effect.LatchEffect.{LatchEffect}
use Rattle.latcheffect.specs.Effect.{effect_by}
use Rattle.latchmove.specs.Tidied.{tidied_by}
use Rattle.latchmove.proofs.Laws.Called.{Counted, asks, said, left}
use Rattle.latchmove.proofs.Laws.Indexed.{reads, stores}
use Rattle.latchmove.proofs.Laws.Ops.{as-asked}
use Rattle.latchmove.proofs.Laws.Sight.{Reads, sight_by, sight_of}
use Rattle.latchmove.proofs.Laws.Stored.{nobody, still, few-turns}
use Rattle.latchbatch.specs.Batch.{call_at, with_reply}
use Rattle.latchbatch.proofs.Laws.Answered.{counts, has-slot, turned-away, let-in}
use Rattle.latchbatch.proofs.Laws.Upto.{Upto, replied, ended}
use Rattle.latchbatch.proofs.answer_calls.Goals as goal
use Rattle.latchbatch.proofs.answer_calls.Goals.{After-is_untidy, then-e-lt32, else-e-lt32}

-- There is still a call to read, and a refused one is answered.
pub loop-i-preserved-then-parties-party : goal.loop-i-preserved-then-parties-party
loop-i-preserved-then-parties-party c =
    let h : Latch =
    of_fields c.args.latch.parties c.loop-i.figures c.loop-i.oldest c.loop-i.places c.loop-i.slots in
    let u = c.loop-i.invariant.0 in
    let o = (call_at c.args.calls.now (2 * c.loop-i.i)).op in (
      replied _ _ _ _ _ _ _ u c.loop-i-test.true (asks o c.party_at-party.result) _ _ _
          (ap (asks o) c.party_at-party.ensures) (turned-away h _ u.lasting o c.if-parties-party.true)
          c.put_at.ensures refl,
      c.loop-i.invariant.1,
    )

-- The party is one of the latch's.
pub bounds-slots-own : goal.bounds-slots-own
bounds-slots-own c =
    let h : Latch =
    of_fields c.args.latch.parties c.loop-i.figures c.loop-i.oldest c.loop-i.places c.loop-i.slots in
    has-slot h _ c.loop-i.invariant.0.lasting c.if-parties-party.false

pub bounds-kinds-own : goal.bounds-kinds-own
bounds-kinds-own c =
    let h : Latch =
    of_fields c.args.latch.parties c.loop-i.figures c.loop-i.oldest c.loop-i.places c.loop-i.slots in
    has-slot h _ c.loop-i.invariant.0.lasting c.if-parties-party.false

pub bounds-slots-own-in-loop-i : goal.bounds-slots-own-in-loop-i
bounds-slots-own-in-loop-i c =
    let h : Latch =
    of_fields c.args.latch.parties c.loop-i.figures c.loop-i.oldest c.loop-i.places c.loop-i.slots in
    has-slot h _ c.loop-i.invariant.0.lasting c.if-parties-party.false

pub full_for-full-requires : goal.full_for-full-requires
full_for-full-requires c =
    let h : Latch =
    of_fields c.args.latch.parties c.loop-i.figures c.loop-i.oldest c.loop-i.places c.loop-i.slots in
    let n : Counted h = counts h c.party_at-party.result c.loop-i.invariant.0.lasting in
    (n.oldest, n.issued)

pub decide_by-e-requires : goal.decide_by-e-requires
decide_by-e-requires c =
    let h : Latch =
    of_fields c.args.latch.parties c.loop-i.figures c.loop-i.oldest c.loop-i.places c.loop-i.slots in
    let n : Counted h = counts h c.party_at-party.result c.loop-i.invariant.0.lasting in
    record { waiters = n.waiters; issued = n.issued; resumed = n.resumed }

-- The record at the head of a turn, the record that the call finds at the start, and the call.
abbrev latch : After-is_untidy → Latch
latch c =
    of_fields c.args.latch.parties c.loop-i.figures c.loop-i.oldest c.loop-i.places c.loop-i.slots

abbrev latch₀ : After-is_untidy → Latch
latch₀ c =
    let l = c.args.latch in
    of_fields l.parties l.figures l.oldest l.places l.slots

abbrev bytes : After-is_untidy → List ℕ
bytes c = c.args.calls.now

abbrev party : After-is_untidy → ℕ
party c = c.party_at-party.result

abbrev op : After-is_untidy → LatchOp
op c = c.op_at-op.result

abbrev call : After-is_untidy → LatchCall
call c = asks (op c) (party c)

call-is : (c : After-is_untidy) → call c ≡ call_at (bytes c) (2 * c.loop-i.i)
call-is c = λ j. asks (c.op_at-op.ensures j) (c.party_at-party.ensures j)

-- What the code read for it is what the party sees.
abbrev seat : After-is_untidy → PlaceSlot
seat c = c.by_ticket-seat.result

abbrev waiter : After-is_untidy → LatchSlot
waiter c = c.slot_within.result

abbrev place_index : After-is_untidy → ℕ
place_index c = c.seat_index-t.result

index : (c : After-is_untidy) → place_index c ≡ ticket_of (read_slot c.loop-i.slots (party c)).phase % PLACES
unfolding read_slot
index c = c.seat_index-t.ensures

reading : (c : After-is_untidy) → Reads (latch c) (party c) (seat c) c.waiter_at-q.result (waiter c)
unfolding read_slot
reading c =
    reads (latch c) (party c) (place_index c) (index c) _ _ _ _ c.loop-i.invariant.1
    c.empty_seat.ensures c.by_ticket-seat.ensures
    c.waiter_at-q.ensures c.slot_within.ensures

-- The effect is that of the call.
abbrev full : After-is_untidy → Bool
full c = is_full c.loop-i.oldest c.loop-i.figures.issued c.loop-i.slots

abbrev sight : After-is_untidy → LatchSight
sight c = sight_of (latch c) (party c) (seat c) (waiter c)

effect_is : (c : After-is_untidy) → c.decide_by-e.result ≡ effect_by (op c) (full c) (sight c)
unfolding read_slot kind_in
effect_is c =
    let s : ℕ → LatchSight = λ k. sight_by k (latch c) (party c) (seat c) (waiter c) in
    let k = get_or c.built_in-kinds.result (party c) 0 in
    c.decide_by-e.ensures
    ∙ ap (λ (b : Bool). effect_by (op c) b (s k)) c.full_for-full.ensures
    ∙ as-asked (full c) (s k) (op c)
    ∙ ap (λ (l : List ℕ). effect_by (op c) (full c) (s (get_or l (party c) 0))) c.built_in-kinds.ensures

abbrev move : After-is_untidy → Move
move c = decide (op c) (full c) (look (latch c) (party c))

-- What the call leaves.
abbrev leaving : After-is_untidy → Latch
leaving c = apply (latch c) (look (latch c) (party c)) (move c)

answered : (c : After-is_untidy)
    → called (latch c) (call c) ≡ record { answer = answer_of (move c); latch = leaving c }
answered c = let-in (latch c) _ c.loop-i.invariant.0.lasting (op c) c.if-parties-party.false

-- The effect, and the record that the tidying starts from.
abbrev effect : After-is_untidy → LatchEffect
effect c = c.decide_by-e.result

turns-most : (c : After-is_untidy) → (effect c).turns ≤ 256
turns-most c = few-turns (op c) (full c) (sight c) (effect c) (effect_is c)

abbrev untidied : After-is_untidy → Latch
untidied c =
    of_fields (latch c).parties (effect c).figures c.loop-i.oldest
    (set c.loop-i.places (place_index c) c.by_ticket.result)
    (write_slot c.if-e-lt32.slots (party c) (effect c).slot)

woken-slots : (c : After-is_untidy)
    → c.if-e-lt32.slots ≡ write_slot c.loop-i.slots (effect c).woken (effect c).waiter
unfolding write_slot
woken-slots c =
    elim c.if-e-lt32.branch [
      | then-e-lt32 w ↦ w.slots-is
      | else-e-lt32 w ↦
          w.slots-is
          ∙ nobody c.loop-i.slots (effect c).woken (effect c).waiter
          (omega (arith, c.loop-i.invariant.1, w.if-e-lt32.false))
    ]

-- What is left, once it is tidied, is what the call leaves.
leaves : (c : After-is_untidy) (u : Latch) → u ≡ tidied_by (effect c).turns (untidied c) → u ≡ leaving c
unfolding read_slot
leaves c u e =
    e
    ∙ ap (tidied_by (effect c).turns)
    (stores (latch c) (party c) _ (index c) (effect c) _ _ _ _ _
    refl refl c.by_ticket.ensures refl (woken-slots c))
    ∙ left _ _ _ _ _ (reading c) (op c) (effect c) (effect_is c)

-- One more call is answered: its answer is written, and u is the record that is left.
one_more : (c : After-is_untidy) (u : Latch) → u ≡ tidied_by (effect c).turns (untidied c)
    → Upto (latch₀ c) c.args.count (bytes c) c.args.out.now u c.put_at-in-loop-i.new.out (c.loop-i.i + 1)
one_more c u e =
    replied _ _ _ _ _ _ _ c.loop-i.invariant.0 c.loop-i-test.true (call c) _ _ u (call-is c)
    (answered c)
    (c.put_at-in-loop-i.ensures
    ∙ ap (λ (a : Answer). with_reply c.loop-i.i (frame_of (party c) (printed a)) c.loop-i.out)
    (said _ _ _ _ _ (reading c) (op c) (effect c) (effect_is c)))
    (leaves c u e)

-- The slots stay as many.
still-32 : (c : After-is_untidy) → length (untidied c).slots ≡ 32
still-32 c =
    still c.loop-i.slots _ (effect c).woken (party c) (effect c).waiter _ (woken-slots c)
    ∙ c.loop-i.invariant.1

pub loop-i-preserved-then-not-is_untidy : goal.loop-i-preserved-then-not-is_untidy
unfolding read_seat write_slot
loop-i-preserved-then-not-is_untidy c =
    let s = (goal.at.loop-i-preserved-then-not-is_untidy c).After-is_untidy in
    let nothing =
    tidy (effect s).turns (ring_of (untidied s)) (sym s.is_untidy.ensures ∙ c.if-not-is_untidy.true) in
    (one_more s _ (ap (with_ring (untidied s)) nothing), still-32 s)

pub reclaim-tidied-requires : goal.reclaim-tidied-requires
reclaim-tidied-requires c =
    let s = (goal.at.reclaim-tidied-requires c).After-is_untidy in
    ((counts (latch s) (party s) s.loop-i.invariant.0.lasting).oldest, turns-most s)

pub loop-i-preserved : goal.loop-i-preserved
unfolding write_slot
loop-i-preserved c =
    let s = (goal.at.loop-i-preserved c).After-is_untidy in
    (one_more s _ (ap (with_ring (untidied s)) c.reclaim-tidied.ensures), still-32 s)

pub returns : goal.returns
returns c =
    let e = ended _ _ _ _ _ _ _ c.loop-i.invariant.0 c.loop-i-test.false in
    (e.0, e.1)
