-- `put_hex` meets its contract: its two characters, one behind the other.
use native.Mathlib.Omega.{arith}
use mathlib.Core.List.{[], ◌∷◌}
use Rattle.deskline.proofs.Laws.PutAt.{first, gives, next, text-is}
use Rattle.deskline.proofs.digits.put_hex.Goals as goal

pub returns : goal.returns
returns c =
    gives
    (text-is (λ i. c.hex_char-high.ensures i ∷ c.hex_char-low.ensures i ∷ [])
    (next (first (_ ∷ []) c.put_char-next.ensures.0
    c.put_char-next.ensures.1 (omega arith))
    (_ ∷ []) c.put_char.ensures.0 c.put_char.ensures.1 (omega arith)))
