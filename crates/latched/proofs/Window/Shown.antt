-- The record as a window of the queue: what it reads is what the queue reads.
use Prim.Native.Nat.{ℕ, ◌+◌, ◌≤◌}
use mathlib.Core.Path.{◌≡◌, sym, ap, ◌∙◌}
use mathlib.Core.List.{List}
use lib.ListN.{length}
use Rattle.hub.specs.Kinds.{built_in, kind_in}
use Rattle.hub.specs.Ledger.{phase_in}
use Rattle.hub.specs.Phases.{by_ticket, by_waiter}
use Rattle.hub.specs.Record.{empty_seat}
use Rattle.hub.specs.Ring.{PLACES, read_seat}
use Rattle.hub.proofs.Invariant.Weights.{drawing, resuming}
use Rattle.hub.proofs.Window.Tracked.{Tracked, seat-same}
use Rattle.latch.specs.declared.record.Latch.{Latch}
use Rattle.latch.specs.declared.record.LatchSlot.{LatchSlot}
use Rattle.latch.specs.Look.{look, seen_by}
use Rattle.latch.specs.Queue.{Queue, phases}
use Rattle.latch.specs.Queue as queue
use Rattle.latch.specs.Record.{free_slot, phases_of, read_slot}
use Rattle.latched.specs.Refinement.{Shows}
use Rattle.latch.proofs.Laws.Slots.{read-phase}
use Rattle.latched.proofs.Invariant.Weights.{due, slot_sum, spare, sum}
use Rattle.latched.proofs.Invariant.Keep.{Inv}

-- The record h tracks the queue m: it shows it, and the queue keeps the invariant.
pub record Tracks (h : Latch) (m : Queue) : Type 0 where
  pub size : length h.places ≡ PLACES
  pub shows : Shows h m
  pub inv : Inv m
  pub room : m.figures.issued + sum drawing m ≤ h.oldest + PLACES

-- Its places beside the queue's cells.
pub tracked : {h : Latch} {m : Queue} → Tracks h m
    → let f = m.figures in
    Tracked (phases m) m.cells h.oldest h.places m.parties f.issued f.resumed f.begun
    (due f + slot_sum spare m) (sum resuming m)
tracked r =
    record { size = r.size; window = r.shows.window; tickets = r.inv.tickets; room = r.room }

module _ (h : Latch) (m : Queue) (r : Tracks h m) where
  -- What the party sees is what it would see at the queue.
  pub read_same : (p : ℕ) → (read_slot h.slots p).phase ≡ phase_in (phases m) p
  read_same p =
      read-phase h.slots p
      ∙ ap (λ (l : List LatchSlot). phase_in (phases_of l) p) r.shows.slots

  seat-alike : (p : ℕ)
      → by_ticket empty_seat (read_seat h.places) (read_slot h.slots p).phase
      ≡ by_ticket empty_seat m.cells (read_slot m.slots p).phase
  seat-alike p =
      ap (λ (l : List LatchSlot). by_ticket empty_seat (read_seat h.places) (read_slot l p).phase) r.shows.slots
      ∙ seat-same (tracked r) p _ (sym (read-phase m.slots p))

  pub look-same : (p : ℕ) → look h p ≡ queue.look m p
  unfolding seen_by
  look-same p = λ i.
      record {
        party = p;
        kind = kind_in built_in p;
        slot = read_slot (r.shows.slots i) p;
        seat = seat-alike p i;
        waiter = by_waiter free_slot (read_slot (r.shows.slots i)) (seat-alike p i).place;
        figures = r.shows.figures i;
      }
