-- `of` meets its contract: each radio of the list is marked, and they are counted.
use mathlib.Core.Path.{◌≡◌}
use lib.ListN.{drop, length, replicate}
use mathlib.Core.Bool.{false}
use Rattle.pool.specs.Missing.{marked}
use Rattle.pool.proofs.check.Missing.of.Given as goal

abbrev pub invariant-loop-radio : goal.invariant-loop-radio
invariant-loop-radio l =
    (length l.missing.radios ≡ 256) × (l.missing.count ≡ length l.radios)
    × (marked l.radios (replicate 256 false) ≡ marked (drop l.radio-index l.radios) l.missing.radios)
