-- `in_store` meets its contract: the ring is read from its first on, as the definition reads it.
use mathlib.Core.Path.{◌≡◌}
use Prim.Native.Nat.{◌+◌, ◌-◌}
use Rattle.hub.specs.Radios.{ring_from}
use Rattle.pool.specs.Missing.{met}
use Rattle.pool.proofs.check.Missing.in_store.Given as goal

abbrev pub invariant-loop-i : goal.invariant-loop-i
invariant-loop-i l =
    met (ring_from l.store l.first l.stored) l.fn.self ≡ met (ring_from l.store (l.first + l.i) (l.stored - l.i)) l.self
