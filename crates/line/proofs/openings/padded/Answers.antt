-- `padded` meets its contract: as much of the part as there is room for is copied.
use Prim.Native.Nat.{ℕ}
use mathlib.Core.List.{List, ◌++◌}
use mathlib.Core.Path.{ap, ◌∙◌}
use lib.ListN.{drop, replicate}
use Rattle.hub.specs.Radios.{STORE}
use Rattle.line.proofs.Laws.Openings.{copied}
use Rattle.line.proofs.openings.padded.Goals as goal

pub returns : goal.returns
returns c =
    ap (λ (l : List ℕ). l ++ drop c.min-count.result (replicate STORE 0)) c.copy_from_slice.ensures.after
    ∙ copied _ _ c.min-count.ensures
