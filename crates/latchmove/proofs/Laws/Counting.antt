-- The parties that may yet draw a ticket, by their slots.
use Prim.Native.Nat.{◌≤◌}
use mathlib.Core.Path.{◌≡◌}
use mathlib.Core.List.{List}
use native.Mathlib.Omega.{arith}
use lib.ListN.{length}
use Rattle.hub.specs.Basics.{bit, count}
use Rattle.hub.specs.Phases.{draws_ticket}
use Rattle.hub.proofs.Laws.Lists.{weight-length, weight-map}
use Rattle.latch.specs.declared.record.LatchSlot.{LatchSlot}
use Rattle.latch.specs.Record.{phases_of}
use Rattle.counts.proofs.Laws.Counting.{bit-most}

pub by_slots : (l : List LatchSlot)
    → count draws_ticket (phases_of l) ≡ count (λ (s : LatchSlot). draws_ticket s.phase) l
by_slots l = weight-map (λ x. bit (draws_ticket x)) (λ (s : LatchSlot). s.phase) l

-- No more of them than there are slots.
pub draws-few : (l : List LatchSlot) → count draws_ticket (phases_of l) ≤ length l
draws-few l =
    omega (
      arith,
      by_slots l,
      weight-length (λ (s : LatchSlot). bit (draws_ticket s.phase))
          (λ s. bit-most (draws_ticket s.phase)) l,
    )
