-- The record as a window of the queue: what it reads is what the queue reads.
use Prim.Native.Nat.{ℕ, ◌+◌, ◌≤◌}
use mathlib.Core.Path.{◌≡◌, sym, ap, ◌∙◌}
use mathlib.Core.Bool.{true}
use mathlib.Core.List.{List}
use lib.ListN.{length}
use Rattle.hub.specs.declared.record.Hub.{Hub}
use Rattle.hub.specs.declared.record.PartySlot.{PartySlot}
use Rattle.hub.specs.Fits.{kinds_fit}
use Rattle.hub.specs.Ledger.{phase_in}
use Rattle.hub.specs.Look.{look, seen_by, sight_on}
use Rattle.hub.specs.Opening.{radios_differ}
use Rattle.hub.specs.Phases.{by_ticket, by_waiter}
use Rattle.hub.specs.Queue.{Queue, phases}
use Rattle.hub.specs.Queue as queue
use Rattle.hub.specs.Record.{empty_seat, free_slot, phases_of, read_slot}
use Rattle.hub.specs.Refinement.{Shows}
use Rattle.hub.specs.Ring.{PLACES, read_seat}
use Rattle.hub.proofs.Laws.Slots.{read-phase}
use Rattle.hub.proofs.Invariant.Weights.{down, drawing, resuming, sum}
use Rattle.hub.proofs.Invariant.Keep.{Inv}
use Rattle.hub.proofs.Radios.Kept.{Kept}
use Rattle.hub.proofs.Window.Tracked.{Tracked, seat-same}

-- The record h tracks the queue m: it shows it, and the queue keeps the invariant.
pub record Tracks (k : ℕ) (h : Hub) (m : Queue) : Type 0 where
  pub permits : h.control.opening.permits ≡ k
  pub size : length h.places ≡ PLACES
  pub shows : Shows h m
  pub inv : Inv k m
  pub room : m.figures.issued + sum drawing m ≤ h.control.oldest + PLACES

-- A record that a schedule reaches: on a hub with radios, they are those of its opening.
pub record Reached (k : ℕ) (h : Hub) (m : Queue) : Type 0 where
  pub tracks : Tracks k h m
  pub differ : radios_differ h.control.opening ≡ true
  pub kinds : kinds_fit h.control.opening ≡ true
  pub radios : h.control.opening.named ≡ true → Kept h

-- Its places beside the queue's cells.
pub tracked : {k : ℕ} {h : Hub} {m : Queue} → Tracks k h m
    → let f = m.figures in
    Tracked (phases m) m.cells h.control.oldest h.places m.opening.parties f.issued f.resumed
    f.begun (down f.counter) (sum resuming m)
tracked r =
    record { size = r.size; window = r.shows.window; tickets = r.inv.tickets; room = r.room }

module _ (k : ℕ) (h : Hub) (m : Queue) (r : Tracks k h m) where
  -- What the party sees is what it would see at the queue.
  pub read_same : (p : ℕ) → (read_slot h.slots p).phase ≡ phase_in (phases m) p
  read_same p =
      read-phase h.slots p
      ∙ ap (λ (l : List PartySlot). phase_in (phases_of l) p) r.shows.slots

  seat-alike : (p : ℕ)
      → by_ticket empty_seat (read_seat h.places) (read_slot h.slots p).phase
      ≡ by_ticket empty_seat m.cells (read_slot m.slots p).phase
  seat-alike p =
      ap (λ (l : List PartySlot). by_ticket empty_seat (read_seat h.places) (read_slot l p).phase) r.shows.slots
      ∙ seat-same (tracked r) p _ (sym (read-phase m.slots p))

  pub look-same : (p : ℕ) → look h p ≡ queue.look m p
  unfolding seen_by
  look-same p = λ i.
      sight_on (r.shows.figures i) (r.shows.opening i) (r.shows.pool i) p (read_slot (r.shows.slots i) p) (seat-alike p i)
      (by_waiter free_slot (read_slot (r.shows.slots i)) (seat-alike p i).place)
