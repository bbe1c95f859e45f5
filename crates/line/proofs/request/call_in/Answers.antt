-- `call_in` meets its contract: its four characters are a line.
use mathlib.Core.Path.{sym, ap, ◌∙◌}
use mathlib.Core.List.{List}
use Prim.Native.Nat.{ℕ}
use Rattle.encoding.specs.Hex.{byte_of}
use Rattle.line.specs.Below.{if_below}
use Rattle.line.proofs.Laws.Codes.{under, over, a-code}
use Rattle.line.proofs.Laws.Lines.{four-line, from, no-first, no-code, no-second, both}
use Rattle.line.proofs.request.call_in.Goals as goal
use Rattle.line.proofs.request.call_in.Goals.{then-code-lt16-via-then-code-lt16, then-code-lt16-via-else-code-lt16+then-code-gt20}

pub returns-in_default : goal.returns-in_default
returns-in_default c =
    c.malformed.ensures ∙ no-first _ _ (sym c.hex_byte.ensures ∙ c.in_default.is)
    ∙ four-line c.args.line.now c.requires

pub returns-then-code-lt16 : goal.returns-then-code-lt16
returns-then-code-lt16 c =
    let e = sym c.hex_byte.ensures ∙ c.in-Some.is in
    c.malformed-then-code-lt16.ensures
    ∙ elim c.then-code-lt16.branch [
      | then-code-lt16-via-then-code-lt16 w ↦ no-code _ _ _ e (under _ w.if-code-lt16.true)
      | then-code-lt16-via-else-code-lt16+then-code-gt20 w ↦ no-code _ _ _ e (over _ w.if-code-gt20.true)
    ]
    ∙ four-line c.args.line.now c.requires

pub returns-in_default-hex_byte : goal.returns-in_default-hex_byte
returns-in_default-hex_byte c =
    let second = c.hex_byte-2.ensures ∙ ap (λ (l : List ℕ). if_below 256 (byte_of l)) (from 2 c.args.line.now) in
    c.malformed-in_default-hex_byte.ensures
    ∙ no-second _ _ _ (sym c.hex_byte.ensures ∙ c.in-Some.is) (sym second ∙ c.in_default-hex_byte.is)
    ∙ four-line c.args.line.now c.requires

pub returns : goal.returns
returns c =
    let second = c.hex_byte-2.ensures ∙ ap (λ (l : List ℕ). if_below 256 (byte_of l)) (from 2 c.args.line.now) in
    both _ _ _ (sym c.hex_byte.ensures ∙ c.in-Some.is) _ (sym second ∙ c.in-Some-hex_byte.is)
    (a-code _ c.if-code-lt16.false c.if-code-gt20.false)
    ∙ four-line c.args.line.now c.requires
