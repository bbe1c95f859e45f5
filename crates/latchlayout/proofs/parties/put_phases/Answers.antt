-- `put_phases` meets its contract: the phases so far are written.
use mathlib.Core.Path.{ap, ◌∙◌}
use mathlib.Core.List.{◌∷◌}
use native.Mathlib.Omega.{arith}
use lib.ListN.{length}
use Rattle.latch.specs.Record.{free_slot}
use Rattle.cells.specs.Bytes.{four_of}
use Rattle.cells.proofs.Laws.Cells.{no_cell, cell-more, all-cells}
use Rattle.latchlayout.proofs.parties.put_phases.Goals as goal

pub loop-p-init : goal.loop-p-init
loop-p-init c = no_cell _ _ _ _ c.requires.1 c.requires.0

pub loop-p-preserved : goal.loop-p-preserved
loop-p-preserved c =
    let number = c.unwrap_or.ensures ∙ c.ticket.ensures.or_0 in
    let said =
    c.copy_from_slice.ensures.after ∙ c.cell-bytes.ensures
    ∙ (λ j. c.name_of.ensures j ∷ four_of (number j)) in
    cell-more _ _ _ _ _ free_slot _ c.loop-p.invariant (omega (arith, c.loop-p-test.true, c.requires.1)) said (ap length said)

pub returns : goal.returns
returns c = all-cells _ _ _ _ _ c.loop-p.invariant (omega (arith, c.loop-p-test.false, c.requires.1))
