-- `put_decimal` meets its contract: its characters, one behind the other.
use native.Mathlib.Omega.{arith}
use mathlib.Core.Path.{sym, ◌∙◌}
use mathlib.Core.List.{[], ◌∷◌}
use Rattle.deskline.proofs.Laws.Numbers.{one-digit, three-digits, two_digits_lem}
use Rattle.deskline.proofs.Laws.PutAt.{first, gives, next, text-is}
use Rattle.deskline.proofs.digits.put_decimal.Goals as goal

pub returns-then-n-lt10 : goal.returns-then-n-lt10
returns-then-n-lt10 c =
    gives
    (text-is ((λ i. c.decimal_char.ensures i ∷ [])
    ∙ sym (one-digit _ c.if-n-lt10.true))
    (first (_ ∷ []) c.put_char.ensures.0 c.put_char.ensures.1
    (omega arith)))

pub returns-then-n-lt100 : goal.returns-then-n-lt100
returns-then-n-lt100 c =
    gives
    (text-is ((λ i. c.decimal_char-then-n-lt100.ensures i ∷ c.decimal_char-then-n-lt100-2.ensures i ∷ [])
    ∙ sym (two_digits_lem _
    c.if-n-lt10.false
    c.if-n-lt100.true))
    (next (first (_ ∷ []) c.put_char-next.ensures.0
    c.put_char-next.ensures.1 (omega arith))
    (_ ∷ []) c.put_char-then-n-lt100.ensures.0 c.put_char-then-n-lt100.ensures.1 (omega arith)))

pub returns : goal.returns
returns c =
    gives
    (text-is ((λ i. c.decimal_char-2.ensures i ∷ c.decimal_char-3.ensures i ∷ c.decimal_char-4.ensures i ∷ [])
    ∙ sym (three-digits _
    c.if-n-lt10.false c.if-n-lt100.false))
    (next (next (first (_ ∷ [])
    c.put_char-second.ensures.0 c.put_char-second.ensures.1 (omega arith))
    (_ ∷ []) c.put_char-third.ensures.0
    c.put_char-third.ensures.1 (omega arith))
    (_ ∷ []) c.put_char-2.ensures.0 c.put_char-2.ensures.1 (omega arith)))
