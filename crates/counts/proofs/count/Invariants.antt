-- `count` meets its contract: what is counted and what is left come to the whole.
use Rattle.std.proofs.Common.{◌≡◌, ◌≤◌, Bool, length}
use Rattle.std.specs.Fn.{FnReturnsAt}
use Rattle.counts.proofs.Laws.Counting.{Counting}
use Rattle.counts.proofs.count.Given as goal

abbrev pub invariant-loop-x : goal.invariant-loop-x
invariant-loop-x g l =
    (l.n ≤ l.x-index)
    × ((test : _ → Bool) → ((x : _) (r : Bool) → FnReturnsAt g.F.Fn l.fn.passes x r → r ≡ test x)
    → Counting test l.fn.items (length l.fn.items) l.x-index l.n)
