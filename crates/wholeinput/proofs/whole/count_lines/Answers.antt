-- `count_lines` meets its contract: the lines that end, and a last one that does not.
use Rattle.std.proofs.Common.{ap, cond, refl, ◌≡◌, ◌∙◌, ◌+◌, Bool, true, false}
use mir.Val.{bool_byte}
use Rattle.wholeinput.specs.Whole.{unended}
use Rattle.wholeinput.proofs.Laws.Lines.{lines-are}
use Rattle.wholeinput.proofs.whole.count_lines.Goals as goal

-- A truth value as a number.
number : (b : Bool) → bool_byte b ≡ cond b 1 0
number true = refl
number false = refl

pub returns : goal.returns
returns c =
    let last : c.from.result ≡ cond (unended c.args.input.now) 1 0 =
    c.from.ensures ∙ number c.is_unended.result ∙ ap (λ (b : Bool). cond b 1 0) c.is_unended.ensures in
    (λ i. c.count_ended.ensures i + last i) ∙ lines-are c.args.input.now
