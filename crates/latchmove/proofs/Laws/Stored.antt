-- What is stored of an effect, and then tidied, is what the move applied leaves.
use Prim.Native.Nat.{ℕ, ◌%◌, ◌≤◌}
use mathlib.Core.Path.{◌≡◌, refl, sym, ap, ap₂, ◌∙◌}
use mathlib.Core.Bool.{Bool, true, false, cond}
use mathlib.Core.List.{List}
use native.Mathlib.Omega.{arith}
use lib.ListN.{length, length-set}
use lib.Seq.{set-get_or, set_out}
use Rattle.hub.specs.declared.record.Phase.{Phase}
use Rattle.hub.specs.declared.record.PlaceSlot.{PlaceSlot}
use Rattle.hub.specs.Phases.{by_ticket, ticket_of}
use Rattle.hub.specs.Record.{PARTIES, empty_seat}
use Rattle.hub.specs.Ring.{PLACES, read_seat, write_seat}
use Rattle.hub.proofs.Laws.Phases.{by-ticket, ticketed}
use Rattle.latch.specs.declared.moves.LatchOp.{LatchOp}
use Rattle.latch.specs.declared.moves.LatchSight.{LatchSight}
use Rattle.latch.specs.declared.record.Latch.{Latch}
use Rattle.latch.specs.declared.record.LatchFigures.{LatchFigures}
use Rattle.latch.specs.declared.record.LatchSlot.{LatchSlot}
use Rattle.latch.specs.Calls.{answer_of, apply, ring_of, tidied, with_ring}
use Rattle.latch.specs.Look.{look, seen_by}
use Rattle.latch.specs.Moves.{Move, Refuse, Act, Put, Wake}
use Rattle.latch.specs.Record.{free_slot, read_slot, with_parts, write_slot}
use Rattle.latch.specs.Table.{decide}
use Rattle.latcheffect.specs.declared.effect.LatchEffect.{LatchEffect}
use Rattle.latcheffect.specs.Effect.{effect_by, effect_of}
use Rattle.transition.proofs.Laws.Loops.{reclaimed-none}
use Rattle.latchmove.specs.Tidied.{tidied_by}

-- Storing what was there changes nothing, nor does storing past the end.
same-seat : (l : List PlaceSlot) (t : ℕ) → write_seat l t (read_seat l t) ≡ l
unfolding write_seat read_seat
same-seat l t = set-get_or l (t % PLACES) empty_seat

same-slot : (l : List LatchSlot) (p : ℕ) → write_slot l p (read_slot l p) ≡ l
unfolding write_slot read_slot
same-slot l p = set-get_or l p free_slot

pub nobody : (l : List LatchSlot) (q : ℕ) (s : LatchSlot) → length l ≤ q → l ≡ write_slot l q s
unfolding write_slot
nobody l q s e = sym (set_out l q s e)

-- Two stores keep the number of slots.
pub still : (l k : List LatchSlot) (q p : ℕ) (x y : LatchSlot) → k ≡ write_slot l q x
    → length (write_slot k p y) ≡ length l
unfolding write_slot
still l k q p x y e = length-set k p y ∙ ap length e ∙ length-set l q x

-- The places, with a put where the phase has a ticket, and what was there put back where not.
abbrev pub put_back : List PlaceSlot → Phase → PlaceSlot → List PlaceSlot
put_back l x a = write_seat l (ticket_of x) (by_ticket (read_seat l (ticket_of x)) (λ t. a) x)

put_is : (l : List PlaceSlot) (x : Phase) (a : PlaceSlot)
    → put_back l x a ≡ by_ticket l (λ t. write_seat l t a) x
put_is l x a =
    ap (write_seat l (ticket_of x)) (by-ticket (read_seat l (ticket_of x)) (λ t. a) x)
    ∙ go (ticketed x) ∙ sym (by-ticket l (λ t. write_seat l t a) x)
  where
    go : (b : Bool)
        → write_seat l (ticket_of x) (cond b a (read_seat l (ticket_of x)))
        ≡ cond b (write_seat l (ticket_of x) a) l
    go true = refl
    go false = same-seat l (ticket_of x)

-- What a phase sees of its place, put there again.
put_same : (l : List PlaceSlot) (x : Phase) → put_back l x (by_ticket empty_seat (read_seat l) x) ≡ l
put_same l x =
    ap (λ (a : PlaceSlot). write_seat l (ticket_of x) (by_ticket (read_seat l (ticket_of x)) (λ t. a) x))
    (by-ticket empty_seat (read_seat l) x)
    ∙ ap (write_seat l (ticket_of x))
    (by-ticket (read_seat l (ticket_of x))
    (λ t. cond (ticketed x) (read_seat l (ticket_of x)) empty_seat) x)
    ∙ go (ticketed x)
  where
    go : (b : Bool)
        → write_seat l (ticket_of x)
        (cond b (cond b (read_seat l (ticket_of x)) empty_seat) (read_seat l (ticket_of x)))
        ≡ l
    go true = same-seat l (ticket_of x)
    go false = same-seat l (ticket_of x)

-- An effect gives the tidying at most 256 turns.
turns-few : (m : Move) (s : LatchSight) → (effect_of m s).turns ≤ 256
turns-few (Refuse r) s = omega arith
turns-few (Act c) s = omega arith
turns-few (Put a c) s = omega arith
turns-few (Wake q x a c) s = omega arith

pub few-turns : (o : LatchOp) (b : Bool) (s : LatchSight) (e : LatchEffect) → e ≡ effect_by o b s
    → e.turns ≤ 256
unfolding effect_by
few-turns o b s e is =
    omega (arith, ap (λ (e : LatchEffect). e.turns) is, turns-few (decide o b s) s)

pub told : (m : Move) (s : LatchSight) → (effect_of m s).answer ≡ answer_of m
told (Refuse r) s = refl
told (Act c) s = refl
told (Put a c) s = refl
told (Wake q x a c) s = refl

-- The record after the stores.
abbrev pub made : Latch → LatchFigures → List PlaceSlot → List LatchSlot → Latch
made h f a l = with_parts f h.oldest a l h

abbrev pub stored : Latch → ℕ → LatchEffect → Latch
stored h p e =
    made h e.figures (put_back h.places (read_slot h.slots p).phase e.seat)
    (write_slot (write_slot h.slots e.woken e.waiter) p e.slot)

tidied-all : (h : Latch) → tidied_by PLACES h ≡ tidied h
unfolding tidied
tidied-all h = refl

tidied-none : (h : Latch) → tidied_by 0 h ≡ h
tidied-none h = ap (with_ring h) (reclaimed-none (ring_of h))

module _ (h : Latch) (p : ℕ) (size : length h.slots ≡ PARTIES) where
  no-waker : (x s : LatchSlot)
      → write_slot (write_slot h.slots PARTIES x) p s ≡ write_slot h.slots p s
  no-waker x s =
      ap (λ (l : List LatchSlot). write_slot l p s) (sym (nobody h.slots PARTIES x (omega arith)))

  pub applied : (m : Move)
      → let e = effect_of m (look h p) in
      tidied_by e.turns (stored h p e) ≡ apply h (look h p) m
  unfolding seen_by apply
  applied (Refuse r) =
      tidied-none _
      ∙ ap₂ (made h h.figures) (put_same h.places (read_slot h.slots p).phase)
      (no-waker _ _ ∙ same-slot h.slots p)
  applied (Act c) =
      tidied-all _
      ∙ ap tidied
      (ap₂ (made h c.figures) (put_same h.places (read_slot h.slots p).phase)
      (no-waker _ _))
  applied (Put a c) =
      tidied-all _
      ∙ ap tidied
      (ap₂ (made h c.figures) (put_is h.places (read_slot h.slots p).phase a)
      (no-waker _ _))
  applied (Wake q x a c) =
      tidied-all _
      ∙ ap tidied
      (ap (λ (k : List PlaceSlot). made h c.figures k (write_slot (write_slot h.slots q x) p c.slot))
      (put_is h.places (read_slot h.slots p).phase a))
