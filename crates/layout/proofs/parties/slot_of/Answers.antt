-- `slot_of` meets its contract: the phase is that of its name, its ticket and its mark.
use Prim.Native.Nat.{◌+◌, ◌*◌, ◌%◌}
use mathlib.Core.Path.{ap, ap₂, ◌∙◌}
use lib.ListN.{get_or}
use Rattle.hub.specs.declared.record.Phase.{Phase}
use Rattle.hub.specs.Record.{with_phase}
use Rattle.cells.specs.Phases.{marked, phase_named}
use Rattle.layout.proofs.parties.slot_of.Goals as goal

pub returns : goal.returns
returns c =
    let s = c in
    let b = s.args.bytes.now in
    let p = s.args.p in
    c.with_phase.ensures
    ∙ ap₂ with_phase
    (c.marked.ensures
    ∙ ap (λ (f : Phase). marked f (get_or b (1817 + p) 0))
    (c.phase_named-phase.ensures
    ∙ ap (phase_named (get_or b (1302 + 5 * p) 0 % 14)) c.number_at.ensures))
    c.free_slot.ensures
