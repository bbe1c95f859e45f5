-- `opening_in` meets its contract: a frame that is an opening asks for one.
use mathlib.Core.Path.{sym, ◌∙◌}
use Rattle.line.proofs.Laws.Openings.{asked-some, asked-back}
use Rattle.line.proofs.openings.opening_in.Goals as goal

pub unwrap-requires : goal.unwrap-requires
unwrap-requires c = asked-some _ _ c.read_frame.ensures c.requires

pub returns : goal.returns
returns c = asked-back _ _ (sym c.unwrap.ensures ∙ c.read_frame.ensures)
