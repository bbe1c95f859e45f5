-- The tidying with so many turns of each loop at most: all of it with 256, none with 0.
use Rattle.std.specs.Prelude.{ℕ}
use Rattle.latch.specs.declared.record.Latch.{Latch}
use Rattle.latch.specs.Calls.{ring_of, with_ring}
use Rattle.transition.specs.Tidied.{reclaimed_by}

abbrev pub tidied_by : ℕ → Latch → Latch
tidied_by k h = with_ring h (reclaimed_by k (ring_of h))
