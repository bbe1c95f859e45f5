-- `rank` meets its contract: from any turn on, how many of the parties passed come before p.
use Prim.Native.Nat.{◌≤◌}
use mathlib.Core.Path.{◌≡◌}
use Rattle.billing.specs.Counting.{count_below}
use Rattle.billing.specs.Portions.{remainder_at}
use Rattle.billing.specs.Sharing.{precedes}
use Rattle.billing.proofs.rank.Given as goal

abbrev pub invariant-loop-q : goal.invariant-loop-q
invariant-loop-q l = (l.before ≤ l.q) × (l.before ≡ count_below (λ x. precedes (remainder_at l.fn.portions x) x (remainder_at l.fn.portions l.fn.p) l.fn.p) l.q)
