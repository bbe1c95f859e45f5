-- `put_line_by` meets its contract: what it writes fills its part of the buffer.
use native.Mathlib.Omega.{arith}
use Rattle.encoding.proofs.Laws.Filled.{all_set}
use Rattle.encoding.proofs.Laws.Tables.{line-by-pairs}
use Rattle.encoding.specs.Frame.{paper}
use mathlib.Core.Path.{◌∙◌}
use Rattle.writer.proofs.text.put_line_by.Goals as goal

pub returns : goal.returns
returns c =
    all_set c.args.out.now _ c.requires.out_len
    ∙ line-by-pairs c.args.pairs.now c.requires.pairs c.args.party (paper c.args.p) (omega arith) (omega arith)
