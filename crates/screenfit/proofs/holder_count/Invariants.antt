-- `holder_count` meets its contract: those counted are all that hold of the parties passed.
use Rattle.std.proofs.Common.{Bool, take, ◌≡◌, ◌≤◌}
use Rattle.std.specs.List.{count_by}
use Rattle.screenfit.proofs.holder_count.Given as goal

abbrev pub invariant-loop-holds : goal.invariant-loop-holds
invariant-loop-holds l =
    (l.n ≤ l.holds-index) × (l.n ≡ count_by (λ (b : Bool). b) (take l.holds-index l.line.holding))
