-- `has_desk` meets its contract: the library's test is the definition's.
use Rattle.std.proofs.Common.{◌∙◌}
use Rattle.hub.specs.Kinds.{has_desk}
use Rattle.hub.proofs.Laws.Kinds.{among-any}
use Rattle.openhub.proofs.kinds.has_desk.Goals as goal

pub returns : goal.returns
unfolding has_desk
returns c = c.contains.ensures.value ∙ among-any 0 c.args.kinds
