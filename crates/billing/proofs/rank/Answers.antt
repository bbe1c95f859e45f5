-- `rank` meets its contract: from any turn on, how many of the parties passed come before p.
use Prim.Native.Nat.{ℕ}
use mathlib.Core.Path.{refl, ap, ◌∙◌}
use native.Mathlib.Omega.{arith}
use Rattle.hub.specs.Basics.{bit}
use Rattle.billing.specs.Counting.{sum, count_below}
use Rattle.billing.specs.Portions.{remainder_at}
use Rattle.billing.specs.Sharing.{precedes, rank}
use Rattle.billing.proofs.Laws.Sums.{bit-most, bit-of, sum-next}
use Rattle.billing.proofs.rank.Goals as goal

pub loop-q-init : goal.loop-q-init
unfolding sum
loop-q-init c = (omega arith, refl)

pub loop-q-preserved : goal.loop-q-preserved
loop-q-preserved c =
    let r : ℕ → ℕ = remainder_at c.args.portions.now in
    let one = c.from-before.ensures ∙ bit-of _ in (
      omega (arith, one, bit-most c.comes_before.result),
      omega (
        arith,
        c.loop-q.invariant.1,
        sum-next (λ x. bit (precedes (r x) x (r c.args.p) c.args.p)) c.loop-q.q,
        one ∙ ap bit c.comes_before.ensures,
      ),
    )

pub returns : goal.returns
unfolding rank
returns c =
    let r : ℕ → ℕ = remainder_at c.args.portions.now in
    c.loop-q.invariant.1
    ∙ ap (count_below (λ x. precedes (r x) x (r c.args.p) c.args.p)) (omega arith)
