-- From the indices by which the code reads and stores to the definitions' reading and writing.
use Prim.Native.Nat.{ℕ, ◌%◌}
use mathlib.Core.Path.{◌≡◌, ap, ap₂}
use mathlib.Core.Bool.{cond}
use mathlib.Core.List.{List}
use lib.Dec.{ltb}
use lib.ListN.{length, get_or, set}
use Rattle.hub.specs.declared.record.Hub.{Hub}
use Rattle.hub.specs.declared.record.PartySlot.{PartySlot}
use Rattle.hub.specs.declared.record.Phase.{Phase}
use Rattle.hub.specs.Phases.{by_waiter, ticket_of}
use Rattle.hub.specs.Record.{PARTIES, empty_seat, free_slot, read_slot, write_slot}
use Rattle.hub.specs.Ring.{PLACES}
use Rattle.hub.proofs.Laws.Seats.{read-index, write-index}
use Rattle.effects.specs.declared.effect.Effect.{Effect}
use Rattle.transition.proofs.Laws.Sight.{Reads}
use Rattle.transition.proofs.Laws.Stored.{made, stored}

module _ (h : Hub) (p i : ℕ) (at : i ≡ ticket_of (read_slot h.slots p).phase % PLACES) where
  abbrev phase : Phase
  phase = (read_slot h.slots p).phase

  pub reads : (q : ℕ) (waiter : PartySlot) → length h.slots ≡ PARTIES
      → q ≡ by_waiter PARTIES (λ n. n) (get_or h.places i empty_seat).place
      → waiter ≡ cond (ltb q PARTIES) (get_or h.slots (q % PARTIES) free_slot) free_slot
      → Reads h p (get_or h.places i empty_seat) q waiter
  unfolding read_slot
  reads q waiter size eq ew =
      record { size = size; place = read-index h.places (ticket_of phase) i at; number = eq; near = ew }

  -- The place and the slots l are stored, the waiter's among them.
  pub stores : (e : Effect) (l : List PartySlot) → l ≡ write_slot h.slots e.woken e.waiter
      → made h e.figures (set h.places i e.seat) (write_slot l p e.slot) ≡ stored h p e
  stores e l el =
      ap₂ (made h e.figures) (write-index h.places (ticket_of phase) i at e.seat)
      (ap (λ (k : List PartySlot). write_slot k p e.slot) el)
