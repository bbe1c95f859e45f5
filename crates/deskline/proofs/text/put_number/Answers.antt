-- `put_number` meets its contract: a space, and the number behind it.
use native.Mathlib.Omega.{arith}
use mathlib.Core.List.{[], ◌∷◌}
use Rattle.deskline.specs.Text.{decimal}
use Rattle.deskline.proofs.Laws.Numbers.{decimal-short, numbers-one}
use Rattle.deskline.proofs.Laws.PutAt.{first, gives, next, text-is}
use Rattle.deskline.proofs.text.put_number.Goals as goal

pub returns : goal.returns
returns c =
    let d = decimal-short c.args.party in
    gives (text-is (numbers-one _) (next (first (_ ∷ [])
    c.put_char-next.ensures.0
    c.put_char-next.ensures.1 (omega arith))
    (decimal c.args.party) c.put_decimal.ensures.0
    c.put_decimal.ensures.1 (omega arith)))
