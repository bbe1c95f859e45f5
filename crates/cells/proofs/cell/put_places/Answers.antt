-- `put_places` meets its contract: the places so far are written.
use mathlib.Core.Path.{ap, ◌∙◌}
use mathlib.Core.List.{◌∷◌}
use native.Mathlib.Omega.{arith}
use lib.ListN.{length}
use Rattle.hub.specs.Record.{empty_seat}
use Rattle.cells.specs.Bytes.{four_of}
use Rattle.cells.proofs.Laws.Cells.{no_cell, cell-more, all-cells}
use Rattle.cells.proofs.cell.put_places.Goals as goal

pub loop-i-init : goal.loop-i-init
loop-i-init c = no_cell _ _ _ _ c.requires.1 c.requires.0

pub loop-i-preserved : goal.loop-i-preserved
loop-i-preserved c =
    let said =
    c.copy_from_slice.ensures.after ∙ c.cell-bytes.ensures
    ∙ (λ j. c.place_rank.ensures j ∷ four_of (c.waiter_of.ensures j)) in
    cell-more _ _ _ _ _ empty_seat _ c.loop-i.invariant (omega (arith, c.loop-i-test.true, c.requires.1)) said (ap length said)

pub returns : goal.returns
returns c = all-cells _ _ _ _ _ c.loop-i.invariant (omega (arith, c.loop-i-test.false, c.requires.1))
