-- `count_drawing` meets its contract: a phase is asked of its slot.
use Rattle.std.proofs.Common.{rules, tests, ◌∙◌}
use Rattle.hub.specs.Phases.{draws_ticket}
use Rattle.counts.proofs.Laws.Shown.{of-phases}
use Rattle.counts.proofs.count_drawing.Goals as goal

pub returns : goal.returns
returns c =
    (c.count.ensures.value _ (λ x r k. search (rules, tests)) ∙ of-phases draws_ticket c.args.slots, search rules)
