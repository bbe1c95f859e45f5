-- `reclaim` meets its contract: the turns of its loops are those of the definition, and the first leaves oldest alone.
use mathlib.Core.Path.{◌≡◌}
use Prim.Native.Nat.{◌+◌, ◌≤◌}
use Rattle.transition.proofs.Laws.Loops.{Skipping}
use Rattle.transition.proofs.Laws.Loops.{Retiring}
use Rattle.hub.specs.Ring.{skip}
use Rattle.ring.specs.Code.{ring_in}
use Rattle.ring.proofs.reclaim.Given as goal

abbrev pub invariant-loop : goal.invariant-loop
invariant-loop l = Skipping l.turns (ring_in l.initial.ring) (ring_in l.ring) l.counter × (l.end ≡ l.initial.ring.oldest + 256)
    × (l.initial.ring.oldest ≤ 1000000) × (l.turns ≤ 256)

-- The first loop ended with what the definition's leaves.
abbrev pub invariant-loop-2 : goal.invariant-loop-2
invariant-loop-2 l = Retiring l.turns (ring_in l.initial.ring) (ring_in l.ring) l.counter × (l.initial.ring.oldest ≤ 1000000) × (l.turns ≤ 256)
    × (ring_in l.initial.ring ≡ skip l.turns (ring_in l.fn.ring))
