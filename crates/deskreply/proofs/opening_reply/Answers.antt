-- `opening_reply` meets its contract: the code of the answer, and the line.
use mathlib.Core.Path.{◌∙◌}
use Rattle.deskreply.proofs.Laws.Replies.{opens}
use Rattle.deskreply.proofs.opening_reply.Goals as goal

pub returns : goal.returns
returns c = c.code_reply.ensures ∙ opens _ _ _ c.open_line-m.ensures.0 c.print_of.ensures
