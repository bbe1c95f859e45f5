-- `rests` meets its contract: a slot that there is says its phase, and one past the 32 is free.
use mathlib.Core.Path.{◌∙◌}
use borrow.Author.Tests.{le-leb}
use Rattle.hub.specs.Record.{read_slot}
use Rattle.torest.proofs.Laws.{past}
use Rattle.torest.proofs.rests.Goals as goal

pub returns-then-party-ge-PARTIES : goal.returns-then-party-ge-PARTIES
returns-then-party-ge-PARTIES c =
    le-leb _ _ c.if-party-ge-PARTIES.true
    ∙ past c.args.slots.now c.args.party c.told-slots c.if-party-ge-PARTIES.true

pub returns-else-party-ge-PARTIES : goal.returns-else-party-ge-PARTIES
unfolding read_slot
returns-else-party-ge-PARTIES c = c.at_rest.ensures
