-- `put_parties` meets its contract: its parts, one behind the other.
use native.Mathlib.Omega.{arith}
use mathlib.Core.List.{[], ◌∷◌}
use Rattle.screen.specs.Line.{holders, waiters}
use Rattle.deskline.specs.Text.{HELD, SPACE, WAITING, numbers, parties_text}
use Rattle.deskline.proofs.Laws.Numbers.{parties-laid}
use Rattle.deskline.proofs.Laws.PutAt.{first, gives, next, text-is}
use Rattle.deskline.proofs.text.put_parties.Goals as goal

pub returns : goal.returns
unfolding parties_text
returns c =
    let a = c.args in record {
      value = gives
          (text-is (parties-laid (numbers (holders a.line.now)) (numbers (waiters a.line.now)))
          (next (next (next (next (first (SPACE ∷ HELD)
          c.put_word-a.ensures.0 c.put_word-a.ensures.1 (omega arith))
          (numbers (holders a.line.now))
          c.put_holders-b.ensures.value.0 c.put_holders-b.ensures.value.1 (omega arith))
          (SPACE ∷ WAITING)
          c.put_word-c.ensures.0
          c.put_word-c.ensures.1
          (omega arith))
          (numbers (waiters a.line.now))
          c.put_waiters-d.ensures.value.0
          c.put_waiters-d.ensures.value.1 (omega arith))
          (0x0A ∷ []) c.put_char.ensures.0 c.put_char.ensures.1
          (omega arith)));
      short = omega arith;
    }
