-- A party's phase in its slot, and in the list of everybody's phases.
use Prim.Native.Nat.{ℕ}
use mathlib.Core.Path.{◌≡◌, sym}
use mathlib.Core.List.{List}
use lib.ListN.{set, get_or-map}
use Rattle.hub.specs.Ledger.{phase_in}
use Rattle.hub.proofs.Laws.Lists.{map-set}
use Rattle.latch.specs.declared.record.LatchSlot.{LatchSlot}
use Rattle.latch.specs.Record.{free_slot, read_slot, write_slot, phases_of}

pub read-phase : (l : List LatchSlot) (p : ℕ) → (read_slot l p).phase ≡ phase_in (phases_of l) p
unfolding read_slot
read-phase l p = sym (get_or-map (λ (s : LatchSlot). s.phase) l p free_slot)

pub write-phase : (l : List LatchSlot) (p : ℕ) (s : LatchSlot)
    → phases_of (write_slot l p s) ≡ set (phases_of l) p s.phase
unfolding write_slot
write-phase = map-set (λ (s : LatchSlot). s.phase)
