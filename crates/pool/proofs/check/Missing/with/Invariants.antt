-- `with` meets its contract: what is met of those that are left is what is met of all.
use mathlib.Core.Path.{◌≡◌}
use Rattle.hub.specs.Radios.{shown}
use Rattle.pool.specs.Missing.{met}
use Rattle.pool.proofs.check.Missing.with.Given as goal

abbrev pub invariant-loop-keeper : goal.invariant-loop-keeper
invariant-loop-keeper g l =
    met (shown g.K.Keeper.keeps l.keepers l.radios) l.fn.self
    ≡ met (shown g.K.Keeper.keeps l.keeper-iterator.a.rest.now l.keeper-iterator.b.rest.now) l.self
