-- `slot_of` meets its contract: the phase is that of its name, its ticket and its mark.
use Prim.Native.Nat.{◌+◌}
use mathlib.Core.Path.{ap, ◌∙◌}
use lib.Dec.{eqb}
use lib.ListN.{get_or}
use Rattle.hub.specs.declared.record.Phase.{Phase}
use Rattle.cells.specs.Phases.{marked, phase_named}
use Rattle.latchlayout.specs.Read.{name_in}
use Rattle.latchlayout.proofs.parties.slot_of.Goals as goal

pub returns : goal.returns
returns c =
    let s = c in
    let b = s.args.bytes.now in
    let p = s.args.p in
    λ j.
    record {
      phase =
          (c.marked.ensures
          ∙ ap (λ (f : Phase). marked f (get_or b (1491 + p) 0))
          (c.phase_named-phase.ensures
          ∙ ap (phase_named (name_in b p)) c.number_at.ensures))
          j;
      raising = eqb (name_in b p) 14;
      left = c.from.ensures j;
    }
