-- From the indices by which the code reads and stores to the definitions' reading and writing.
use Prim.Native.Nat.{ℕ, ◌%◌}
use mathlib.Core.Path.{◌≡◌, ap, ap₂, ◌∙◌}
use mathlib.Core.Bool.{cond}
use mathlib.Core.List.{List}
use lib.Dec.{ltb}
use lib.ListN.{length, get_or, set}
use Rattle.hub.specs.declared.record.Phase.{Phase}
use Rattle.hub.specs.declared.record.PlaceSlot.{PlaceSlot}
use Rattle.hub.specs.Phases.{by_ticket, by_waiter, ticket_of}
use Rattle.hub.specs.Record.{PARTIES, empty_seat}
use Rattle.hub.specs.Ring.{PLACES, read_seat, write_seat}
use Rattle.latch.specs.declared.record.Latch.{Latch}
use Rattle.latch.specs.declared.record.LatchFigures.{LatchFigures}
use Rattle.latch.specs.declared.record.LatchSlot.{LatchSlot}
use Rattle.latch.specs.Record.{free_slot, read_slot, write_slot}
use Rattle.latcheffect.specs.declared.effect.LatchEffect.{LatchEffect}
use Rattle.latchmove.proofs.Laws.Sight.{Reads}
use Rattle.latchmove.proofs.Laws.Stored.{made, stored}

module _ (h : Latch) (p i : ℕ) (at : i ≡ ticket_of (read_slot h.slots p).phase % PLACES) where
  abbrev phase : Phase
  phase = (read_slot h.slots p).phase

  -- What lies at the index of the party's ticket.
  there : get_or h.places i empty_seat ≡ read_seat h.places (ticket_of phase)
  unfolding read_seat
  there = ap (λ (j : ℕ). get_or h.places j empty_seat) at

  pub reads : (none seat : PlaceSlot) (q : ℕ) (waiter : LatchSlot) → length h.slots ≡ PARTIES
      → none ≡ empty_seat → seat ≡ by_ticket none (λ t. get_or h.places i empty_seat) phase
      → q ≡ by_waiter PARTIES (λ n. n) seat.place
      → waiter ≡ cond (ltb q PARTIES) (get_or h.slots (q % PARTIES) free_slot) free_slot
      → Reads h p seat q waiter
  unfolding read_slot
  reads none seat q waiter size en es eq ew =
      record {
        size = size;
        place =
            es
            ∙ ap₂ (λ (a b : PlaceSlot). by_ticket a (λ t. b) phase) en there;
        number = eq;
        near = ew;
      }

  -- The parts f, a and x of an effect are stored, in the slots l with the waiter's among them.
  pub stores : (e : LatchEffect) (f : LatchFigures) (a b : PlaceSlot) (x : LatchSlot) (l : List LatchSlot)
      → f ≡ e.figures → a ≡ e.seat → b ≡ by_ticket (get_or h.places i empty_seat) (λ t. a) phase
      → x ≡ e.slot → l ≡ write_slot h.slots e.woken e.waiter
      → made h f (set h.places i b) (write_slot l p x) ≡ stored h p e
  unfolding write_seat
  stores e f a b x l ef ea eb ex el = λ j.
      made h (ef j)
      (set h.places (at j) ((eb ∙ ap₂ (λ (o a : PlaceSlot). by_ticket o (λ t. a) phase) there ea) j))
      (write_slot (el j) p (ex j))
