-- The tidying with so many turns of each loop at most: all of it with 256, none with 0.
use Rattle.std.specs.Prelude.{ℕ}
use Rattle.hub.specs.declared.record.Hub.{Hub}
use Rattle.hub.specs.Calls.{ring_of, with_ring}
use Rattle.hub.specs.Ring.{Ring, retire, skip}

abbrev pub reclaimed_by : ℕ → Ring → Ring
reclaimed_by k r = retire k (skip k r)

abbrev pub tidied_by : ℕ → Hub → Hub
tidied_by k h = with_ring h (reclaimed_by k (ring_of h))
