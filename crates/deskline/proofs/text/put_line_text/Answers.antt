-- `put_line_text` meets its contract: its two parts, one behind the other.
use native.Mathlib.Omega.{arith}
use Rattle.deskline.specs.Text.{head_text, line_text, parties_text}
use Rattle.deskline.proofs.Laws.PutAt.{first, gives, next}
use Rattle.deskline.proofs.text.put_line_text.Goals as goal

pub returns : goal.returns
unfolding line_text
returns c =
    let r = c.args.r in record {
      value = gives
          (next (first (head_text r.code r.party r.steps)
          c.put_head-next.ensures.value.0
          c.put_head-next.ensures.value.1 (omega arith))
          (parties_text r.line) c.put_parties.ensures.value.0
          c.put_parties.ensures.value.1 (omega arith));
      short = omega arith;
    }
