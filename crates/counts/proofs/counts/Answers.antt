-- `counts` meets its contract: each figure is a count, or made of two.
use Rattle.std.proofs.Common.{refl, rules, tests, ap, ◌∙◌}
use mir.Facts.{to_z-of_z}
use mir.Syntax.{w32}
use mir.Val.{SFits}
use Rattle.hub.specs.Ledger.{at_counter}
use Rattle.hub.specs.Counts.{counts_of}
use Rattle.hub.specs.Phases.{holds, is_permit, is_refused, is_waiting, refuses, resumes}
use Rattle.counts.proofs.Laws.Shown.{of-phases, of-places}
use Rattle.counts.proofs.counts.Goals as goal

pub returns-clause-value : goal.returns-clause-value
unfolding counts_of
returns-clause-value c =
    let held = c.count-5.ensures.value _ (λ x r k. search (rules, tests)) ∙ of-phases holds c.args.hub.slots in
    let brought = c.count.ensures.value _ (λ x r k. search (rules, tests)) ∙ of-phases resumes c.args.hub.slots in
    let laid = c.count-2.ensures.value _ (λ x r k. search (rules, tests)) ∙ of-places is_permit c.args.hub.places in
    let refusing = c.count-3.ensures.value _ (λ x r k. search (rules, tests)) ∙ of-phases refuses c.args.hub.slots in
    let refused = c.count-4.ensures.value _ (λ x r k. search (rules, tests)) ∙ of-places is_refused c.args.hub.places in
    let waiting = c.count-6.ensures.value _ (λ x r k. search (rules, tests)) ∙ of-phases is_waiting c.args.hub.slots in
    -- The counter is of its width.
    let fits : SFits w32 c.args.hub.control.figures.counter = search rules in
    let available = c.at_counter.ensures ∙ ap at_counter (to_z-of_z fits) in
    rw (c.saturating_sub.ensures, held, brought, laid, refusing, refused, waiting, available) refl
