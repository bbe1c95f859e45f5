-- What is stored of an effect, and then tidied, is what the move applied leaves.
use Prim.Native.Nat.{ℕ, ◌≤◌}
use mathlib.Core.Path.{◌≡◌, refl, sym, ap, ap₂, ◌∙◌}
use mathlib.Core.Bool.{Bool, true, cond}
use mathlib.Core.List.{List}
use native.Mathlib.Omega.{arith}
use lib.ListN.{length, length-set}
use lib.Seq.{set-get_or, set_out}
use Rattle.hub.specs.declared.answers.Answer.{Answer}
use Rattle.hub.specs.declared.moves.Sight.{Sight}
use Rattle.hub.specs.declared.record.Figures.{Figures}
use Rattle.hub.specs.declared.record.Hub.{Hub}
use Rattle.hub.specs.declared.record.PartySlot.{PartySlot}
use Rattle.hub.specs.declared.record.Phase.{Phase}
use Rattle.hub.specs.declared.record.PlaceSlot.{PlaceSlot}
use Rattle.hub.specs.Calls.{answer_of, apply, ring_of, tidied, with_ring}
use Rattle.hub.specs.Look.{look, seen_by}
use Rattle.hub.specs.Moves.{Move, Refuse, Tell, Act, Put, Wake}
use Rattle.hub.specs.Phases.{by_ticket, ticket_of}
use Rattle.hub.specs.Record.{PARTIES, free_slot, read_slot, with_parts, write_slot}
use Rattle.hub.specs.Ring.{PLACES, read_seat, write_seat}
use Rattle.hub.proofs.Laws.Phases.{by-ticket, ticketed}
use Rattle.hub.proofs.Laws.Seats.{same-seat}
use Rattle.effects.specs.declared.effect.Effect.{Effect}
use Rattle.effects.specs.Effect.{effect_of, still as unmoved}
use Rattle.transition.specs.Tidied.{tidied_by}
use Rattle.transition.proofs.Laws.Loops.{reclaimed-none}
use Rattle.transition.proofs.Laws.Sight.{sight_of}
use Rattle.transition.proofs.Laws.Unseen.{touches}

-- Storing what was there changes nothing.
pub same-slot : (l : List PartySlot) (p : ℕ) → write_slot l p (read_slot l p) ≡ l
unfolding write_slot read_slot
same-slot l p = set-get_or l p free_slot

-- Nor does storing past the end.
pub nobody : (l : List PartySlot) (q : ℕ) (s : PartySlot) → length l ≤ q → l ≡ write_slot l q s
unfolding write_slot
nobody l q s e = sym (set_out l q s e)

-- Two stores keep the number of slots.
pub still : (l k : List PartySlot) (q p : ℕ) (x y : PartySlot) → k ≡ write_slot l q x
    → length (write_slot k p y) ≡ length l
unfolding write_slot
still l k q p x y e = length-set k p y ∙ ap length e ∙ length-set l q x

-- A move that touches a place is one of a party that has a ticket: so storing there is putting.
put_is : (l : List PlaceSlot) (x : Phase) (a : PlaceSlot) → ticketed x ≡ true
    → write_seat l (ticket_of x) a ≡ by_ticket l (λ t. write_seat l t a) x
put_is l x a has =
    sym (by-ticket l (λ t. write_seat l t a) x
    ∙ ap (λ (b : Bool). cond b (write_seat l (ticket_of x) a) l) has)

-- An effect gives the tidying at most 256 turns.
turns-few : (m : Move) (s : Sight) → (effect_of m s).turns ≤ 256
turns-few (Refuse r) s = omega arith
turns-few (Tell y) s = omega arith
turns-few (Act c) s = omega arith
turns-few (Put a c) s = omega arith
turns-few (Wake q x a c) s = omega arith

pub few-turns : (m : Move) (s : Sight) (e : Effect) → e ≡ effect_of m s → e.turns ≤ 256
few-turns m s e is = omega (arith, ap (λ (e : Effect). e.turns) is, turns-few m s)

pub told : (m : Move) (s : Sight) → (effect_of m s).answer ≡ answer_of m
told (Refuse r) s = refl
told (Tell y) s = refl
told (Act c) s = refl
told (Put a c) s = refl
told (Wake q x a c) s = refl

-- The record after the stores, but for the radios.
abbrev pub made : Hub → Figures → List PlaceSlot → List PartySlot → Hub
made h f a l = with_parts f h.control.oldest a l h.control.pool h

abbrev pub stored : Hub → ℕ → Effect → Hub
stored h p e =
    made h e.figures (write_seat h.places (ticket_of (read_slot h.slots p).phase) e.seat)
    (write_slot (write_slot h.slots e.woken e.waiter) p e.slot)

pub tidied-all : (h : Hub) → tidied_by PLACES h ≡ tidied h
unfolding tidied
tidied-all h = refl

pub tidied-none : (h : Hub) → tidied_by 0 h ≡ h
tidied-none h = ap (with_ring h) (reclaimed-none (ring_of h))

module _ (h : Hub) (p : ℕ) (size : length h.slots ≡ PARTIES) where
  no-waker : (x s : PartySlot)
      → write_slot (write_slot h.slots PARTIES x) p s ≡ write_slot h.slots p s
  no-waker x s =
      ap (λ (l : List PartySlot). write_slot l p s) (sym (nobody h.slots PARTIES x (omega arith)))

  -- A party that was shown the place of its ticket, which is that of ticket 0 if it has none.
  module _ (waiter : PartySlot) where
    abbrev x : Phase
    x = (read_slot h.slots p).phase

    abbrev s : Sight
    s = sight_of h p (read_seat h.places (ticket_of x)) waiter

    -- A move that changes nothing.
    unchanged : (y : Answer) → tidied_by 0 (stored h p (unmoved y s)) ≡ h
    unchanged y =
        tidied-none _
        ∙ ap₂ (made h h.control.figures) (same-seat h.places (ticket_of x))
        (no-waker _ _ ∙ same-slot h.slots p)

    pub applied : (m : Move) → ((touches m ≡ true) → ticketed x ≡ true)
        → let e = effect_of m s in
        tidied_by e.turns (stored h p e) ≡ apply h (look h p) m
    unfolding seen_by apply
    applied (Refuse r) i = unchanged (Answer.Refused r)
    applied (Tell y) i = unchanged y
    applied (Act c) i =
        tidied-all _
        ∙ ap tidied
        (ap₂ (made h c.figures) (same-seat h.places (ticket_of x)) (no-waker _ _))
    applied (Put a c) i =
        tidied-all _
        ∙ ap tidied (ap₂ (made h c.figures) (put_is h.places x a (i refl)) (no-waker _ _))
    applied (Wake q w a c) i =
        tidied-all _
        ∙ ap tidied
        (ap (λ (k : List PlaceSlot). made h c.figures k (write_slot (write_slot h.slots q w) p c.slot))
        (put_is h.places x a (i refl)))
