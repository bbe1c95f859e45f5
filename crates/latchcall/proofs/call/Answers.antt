-- `call` meets its contract: refused by 1 or 4, or decided, stored and tidied.
use borrow.Author.Tests.{not-true, not-false, lt-ltb, le-ltb}
use mathlib.Core.Path.{◌≡◌, refl, sym, ap, ◌∙◌}
use mathlib.Core.Bool.{Bool, true}
use mathlib.Core.List.{List}
use native.Mathlib.Omega.{arith}
use Prim.Native.Nat.{ℕ, ◌<◌, ◌%◌, ◌≤◌}
use lib.ListN.{length, set}
use Rattle.hub.specs.declared.record.PlaceSlot.{PlaceSlot}
use Rattle.hub.specs.Kinds.{kind_in}
use Rattle.hub.specs.Phases.{ticket_of}
use Rattle.hub.specs.Ring.{PLACES, read_seat}
use Rattle.hub.proofs.Laws.Lists.{mapped-size}
use Rattle.transition.proofs.Laws.Loops.{tidy}
use Rattle.latch.specs.declared.moves.LatchSight.{LatchSight}
use Rattle.latch.specs.declared.record.Latch.{Latch}
use Rattle.latch.specs.declared.record.LatchSlot.{LatchSlot}
use Rattle.latch.specs.Calls.{called, is_full, ring_of, with_ring}
use Rattle.latch.specs.Fits.{fits}
use Rattle.latch.specs.Record.{read_slot, write_slot}
use Rattle.latcheffect.specs.Effect.{effect_by}
use Rattle.latchmove.specs.Tidied.{tidied_by}
use Rattle.latchmove.proofs.Laws.Called.{asks, unfit, no-such-party, Counted, counted}
use Rattle.latchmove.proofs.Laws.Called.{outcome-is, with-printed}
use Rattle.latchmove.proofs.Laws.Indexed.{reads, stores}
use Rattle.latchmove.proofs.Laws.Sight.{Reads, sight_by, sight_of}
use Rattle.latchmove.proofs.Laws.Stored.{made, nobody, stored, few-turns}
use Rattle.latchcall.proofs.call.Goals as goal
use Rattle.latchcall.proofs.call.Goals.{Start, After-is_untidy, then-e-lt32, else-e-lt32}

-- What is known once the record fits, and once the party is one of its own.
passes : (h : Latch) {b : Bool} → b ≡ fits h → b ≡ true → fits h ≡ true
passes h e t = sym e ∙ t

within-slots : (h : Latch) (p : ℕ) → fits h ≡ true → p < h.parties → p < 32
within-slots h p f i = let n : Counted h = counted h f in omega (arith, i, n.parties)

pub returns-then-not-fits : goal.returns-then-not-fits
returns-then-not-fits c =
    with-printed (unfit _ _ _ (sym c.fits.ensures ∙ not-true _ c.if-not-fits.true-raw))

pub returns-then-latch-party : goal.returns-then-latch-party
returns-then-latch-party c =
    let f = passes c.args.latch c.fits.ensures (not-false _ c.if-not-fits.false-raw) in
    with-printed (no-such-party _ _ _ f (le-ltb _ _ c.if-latch-party.true))

pub bounds-latch-p : goal.bounds-latch-p
bounds-latch-p c =
    within-slots c.args.latch _ (passes c.args.latch c.fits.ensures (not-false _ c.if-not-fits.false-raw))
    c.if-latch-party.false

pub decide-e-requires : goal.decide-e-requires
decide-e-requires c =
    let n : Counted c.args.latch =
    counted _ (passes c.args.latch c.fits.ensures (not-false _ c.if-not-fits.false-raw)) in
    (record { waiters = n.waiters; issued = n.issued; resumed = n.resumed }, n.oldest)

pub bounds-latch-p-2 : goal.bounds-latch-p-2
bounds-latch-p-2 c =
    within-slots c.args.latch _ (passes c.args.latch c.fits.ensures (not-false _ c.if-not-fits.false-raw))
    c.if-latch-party.false

-- The record and the party of the call.
abbrev latch : After-is_untidy → Latch
latch c = c.args.latch

abbrev party : After-is_untidy → ℕ
party c = c.args.party

size : (c : Start) → length c.args.latch.slots ≡ 32
size c = search mapped-size

-- The slots of a record are 32.
abbrev Sized : After-is_untidy → Type 0
Sized c = length (latch c).slots ≡ 32

fitting : (c : After-is_untidy) → fits (latch c) ≡ true
fitting c = passes _ c.fits.ensures (not-false _ c.if-not-fits.false-raw)

-- What the code has read is what the party sees.
abbrev seat : After-is_untidy → PlaceSlot
seat c = c.by_ticket-seat.result

abbrev waiter : After-is_untidy → LatchSlot
waiter c = c.slot_within.result

abbrev at : After-is_untidy → ℕ
at c = c.seat_index-t.result

index : (c : After-is_untidy) → at c ≡ ticket_of (read_slot (latch c).slots (party c)).phase % PLACES
unfolding read_slot
index c = c.seat_index-t.ensures

reading : (c : After-is_untidy) → Sized c → Reads (latch c) (party c) (seat c) c.waiter_at-q.result (waiter c)
unfolding read_slot
reading c z =
    reads (latch c) (party c) (at c) (index c) _ _ _ _ z
    c.empty_seat.ensures c.by_ticket-seat.ensures
    c.waiter_at-q.ensures c.slot_within.ensures

-- The effect is that of the call.
abbrev sight : After-is_untidy → LatchSight
sight c = sight_of (latch c) (party c) (seat c) (waiter c)

abbrev full : After-is_untidy → Bool
full c = is_full (latch c).oldest (latch c).figures.issued (latch c).slots

effect_is : (c : After-is_untidy) → c.decide-e.result ≡ effect_by c.args.op (full c) (sight c)
unfolding read_slot
effect_is c =
    let s : ℕ → LatchSight = λ n. sight_by n (latch c) (party c) (seat c) (waiter c) in
    c.decide-e.ensures
    ∙ ap (λ (n : ℕ). effect_by c.args.op (full c) (s n))
    (c.kind_in.ensures ∙ ap (λ (l : List ℕ). kind_in l (party c)) c.built_in.ensures)

turns-most : (c : After-is_untidy) → c.decide-e.result.turns ≤ 256
turns-most c = few-turns c.args.op (full c) (sight c) c.decide-e.result (effect_is c)

-- Any woken party's slot is set.
slots_set : (c : After-is_untidy) → Sized c
    → let h = latch c in
    let e = c.decide-e.result in
    c.if-e-lt32.latch ≡ made h h.figures h.places (write_slot h.slots e.woken e.waiter)
unfolding write_slot
slots_set c z =
    let h = latch c in
    let e = c.decide-e.result in
    elim c.if-e-lt32.branch [
      | then-e-lt32 w ↦ w.latch-is
      | else-e-lt32 w ↦
          w.latch-is
          ∙ ap (made h h.figures h.places)
          (nobody h.slots e.woken e.waiter (omega (arith, z, w.if-e-lt32.false)))
    ]

-- The record after the stores.
abbrev after : After-is_untidy → Latch
after c =
    let g = c.if-e-lt32.latch in
    let e = c.decide-e.result in
    made g e.figures (set g.places (at c) c.by_ticket.result) (write_slot g.slots (party c) e.slot)

is-stored : (c : After-is_untidy) → Sized c → after c ≡ stored (latch c) (party c) c.decide-e.result
unfolding read_slot
is-stored c z =
    let e = c.decide-e.result in
    ap (λ (g : Latch). made g e.figures (set g.places (at c) c.by_ticket.result)
    (write_slot g.slots (party c) e.slot)) (slots_set c z)
    ∙ stores (latch c) (party c) (at c) (index c) e _ _ _ _ _ refl refl c.by_ticket.ensures refl refl

-- Tidied, it is what the call leaves.
leaves : (c : After-is_untidy) → Sized c → (g : Latch) → g ≡ tidied_by c.decide-e.result.turns (after c)
    → record { answer = c.decide-e.result.answer; latch = g }
    ≡ called (latch c) (asks c.args.op (party c))
leaves c z g e =
    outcome-is _ _ _ _ _ (reading c z) c.args.op c.decide-e.result (effect_is c)
    (fitting c) (lt-ltb _ _ c.if-latch-party.false) g
    (e ∙ ap (tidied_by c.decide-e.result.turns) (is-stored c z))

pub reclaim-tidied-requires : goal.reclaim-tidied-requires
reclaim-tidied-requires c =
    let b = (goal.at.reclaim-tidied-requires c).After-is_untidy in
    let z = size (goal.at.reclaim-tidied-requires c).Start in
    let n : Counted (latch b) = counted _ (fitting b) in (
      omega (arith, ap (λ (h : Latch). h.oldest) (is-stored b z), n.oldest),
      turns-most b,
    )

pub returns-else-is_untidy : goal.returns-else-is_untidy
unfolding read_seat write_slot
returns-else-is_untidy c =
    let b = (goal.at.returns-else-is_untidy c).After-is_untidy in
    let z = size (goal.at.returns-else-is_untidy c).Start in
    let h = after b in
    with-printed (leaves b z _
    (ap (with_ring h)
    (tidy b.decide-e.result.turns (ring_of h) (sym b.is_untidy.ensures ∙ c.if-is_untidy.false))))

pub returns-then-is_untidy : goal.returns-then-is_untidy
unfolding write_slot
returns-then-is_untidy c =
    let b = (goal.at.returns-then-is_untidy c).After-is_untidy in
    let z = size (goal.at.returns-then-is_untidy c).Start in
    with-printed (leaves b z _ (ap (with_ring (after b)) c.reclaim-tidied.ensures))
