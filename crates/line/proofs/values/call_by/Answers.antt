-- `call_by` meets its contract: its four characters are a line.
use mathlib.Core.Path.{sym, ◌∙◌}
use Rattle.line.proofs.Laws.Codes.{under, over, a-code}
use Rattle.line.proofs.Laws.Lines.{four, no-first, no-code, no-second, both}
use Rattle.line.proofs.values.call_by.Goals as goal
use Rattle.line.proofs.values.call_by.Goals.{then-code-lt16-via-then-code-lt16, then-code-lt16-via-else-code-lt16+then-code-gt20}

pub returns-in_default : goal.returns-in_default
returns-in_default c =
    c.malformed.ensures ∙ no-first _ _ (sym c.byte_by.ensures ∙ c.in_default.is)
    ∙ four c.args.a c.args.b c.args.c c.args.d

pub returns-then-code-lt16 : goal.returns-then-code-lt16
returns-then-code-lt16 c =
    let e = sym c.byte_by.ensures ∙ c.in-Some.is in
    c.malformed-then-code-lt16.ensures
    ∙ elim c.then-code-lt16.branch [
      | then-code-lt16-via-then-code-lt16 w ↦ no-code _ _ _ e (under _ w.if-code-lt16.true)
      | then-code-lt16-via-else-code-lt16+then-code-gt20 w ↦ no-code _ _ _ e (over _ w.if-code-gt20.true)
    ]
    ∙ four c.args.a c.args.b c.args.c c.args.d

pub returns-in_default-byte_by : goal.returns-in_default-byte_by
returns-in_default-byte_by c =
    c.malformed-in_default-byte_by.ensures
    ∙ no-second _ _ _ (sym c.byte_by.ensures ∙ c.in-Some.is) (sym c.byte_by-2.ensures ∙ c.in_default-byte_by.is)
    ∙ four c.args.a c.args.b c.args.c c.args.d

pub returns : goal.returns
returns c =
    both _ _ _ (sym c.byte_by.ensures ∙ c.in-Some.is) _ (sym c.byte_by-2.ensures ∙ c.in-Some-byte_by.is)
    (a-code _ c.if-code-lt16.false c.if-code-gt20.false)
    ∙ four c.args.a c.args.b c.args.c c.args.d
