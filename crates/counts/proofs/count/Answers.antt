-- `count` meets its contract: each turn counts one, and after the last nothing is left.
use mathlib.Core.Path.{refl, ap, ◌∙◌}
use native.Mathlib.Omega.{arith}
use Rattle.std.proofs.lemmas.Fn.{says_at}
use Rattle.hub.specs.Basics.{bit}
use Rattle.counts.proofs.Laws.Counting.{bit-most, bit-of, counting-all, counting-on, counting-start}
use Rattle.counts.proofs.count.Goals as goal

pub loop-x-init : goal.loop-x-init
loop-x-init g c = (omega arith, λ test acts. counting-start test _)

pub loop-x-preserved : goal.loop-x-preserved
loop-x-preserved g c =
    let one = c.from-n.ensures ∙ bit-of _ in (
      omega (arith, c.loop-x.invariant.0, one, bit-most c.passes.result),
      λ test acts.
          counting-on test _ _ _ _ (c.loop-x.invariant.1 test acts) c.x-item.result _ c.loop-x-test.true
          (one ∙ ap bit (acts _ _ (says_at g.F.Fn c.passes.ensures refl)) ∙ ap (λ x. bit (test x)) c.x-item.is),
    )

pub returns-clause-value : goal.returns-clause-value
returns-clause-value g c test acts = counting-all test _ _ _ _ (c.loop-x.invariant.1 test acts) c.loop-x-test.false
