-- `decode` meets its contract: the bytes written and those that the rest spells are the line's.
use mathlib.Core.Path.{sym, ap, ◌∙◌}
use native.Mathlib.Omega.{arith}
use Rattle.line.proofs.Laws.Decoding.{at-start, decoded, stopped, one_byte}
use Rattle.line.proofs.Laws.Lines.{too_long, odd}
use Rattle.line.proofs.request.decode.Goals as goal
use Rattle.line.proofs.request.decode.Goals.{then-line-gt-LONGEST-via-then-line-gt-LONGEST, then-line-gt-LONGEST-via-else-line-gt-LONGEST+then-line-eq1}

pub returns-then-line-gt-LONGEST : goal.returns-then-line-gt-LONGEST
returns-then-line-gt-LONGEST c =
    elim c.then-line-gt-LONGEST.branch [
      | then-line-gt-LONGEST-via-then-line-gt-LONGEST w ↦ too_long _ w.if-line-gt-LONGEST.true
      | then-line-gt-LONGEST-via-else-line-gt-LONGEST+then-line-eq1 w ↦ odd _ w.if-line-eq1.true
    ]

pub loop-i-init : goal.loop-i-init
loop-i-init c =
    let e = c.into_iter-i-iterator.ensures.into_iter_gives in
    record {
      decoding =
          at-start _ _ _ _ c.told-bytes
          (ap (λ t. t.iter.rest.now) e ∙ ap (λ t. t.rest.now) c.enumerate-i-items.ensures.source ∙ c.chunks_exact.ensures.rest)
          (ap (λ t. t.count) e ∙ c.enumerate-i-items.ensures.count);
      size =
          ap (λ t. t.iter.size) e ∙ ap (λ t. t.size) c.enumerate-i-items.ensures.source ∙ c.chunks_exact.ensures.size;
    }

pub returns-in_default : goal.returns-in_default
returns-in_default c =
    let step = c.in-Some.ensures.steps.0 in
    stopped _ _ _ _ c.loop-i.invariant.decoding _ _ (step.1.1 ∙ c.loop-i.invariant.size) step.1.0
    (sym c.in_default.is ∙ c.hex_byte.ensures)

pub loop-i-preserved : goal.loop-i-preserved
loop-i-preserved c =
    let steps = c.in-Some.ensures.steps in
    let step = steps.0 in
    record {
      decoding =
          one_byte _ _ _ _ c.loop-i.invariant.decoding _ _ (step.1.1 ∙ c.loop-i.invariant.size) step.1.0 _
          (sym c.in-Some-hex_byte.is ∙ c.hex_byte.ensures) c.if-line-gt-LONGEST.false _ _ steps.1 steps.2;
      size = step.0 ∙ c.loop-i.invariant.size;
    }

pub returns : goal.returns
returns c =
    let step = c.in-None.ensures.steps.0 in
    decoded _ _ _ _ c.loop-i.invariant.decoding c.if-line-gt-LONGEST.false c.if-line-eq1.false
    (omega (arith, step.1.0, c.loop-i.invariant.size))
