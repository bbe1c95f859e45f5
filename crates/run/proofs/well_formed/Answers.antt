-- `well_formed` meets its contract: what is left of the pairs, from any turn on, says the same.
use Rattle.std.proofs.Common.{arith, sym, ap, ◌∙◌, ◌%◌, length, length-append}
use Rattle.run.specs.Bytes.{well_formed}
use Rattle.run.proofs.Laws.Pairs.{bad, ended, good, odd}
use Rattle.run.proofs.well_formed.Goals as goal

pub returns-then-pairs-eq1 : goal.returns-then-pairs-eq1
returns-then-pairs-eq1 g c = λ test same. odd test _ c.if-pairs-eq1.true

pub loop-pair-init : goal.loop-pair-init
loop-pair-init g c =
    let e = ap (λ i. i.rest.now) c.into_iter-pair-iterator.ensures.into_iter_gives ∙ c.chunks_exact-pair-items.ensures.rest in (
      ap (λ i. i.size) c.into_iter-pair-iterator.ensures.into_iter_gives ∙ c.chunks_exact-pair-items.ensures.size,
      (λ test same. ap (well_formed test) e),
      ap (λ l. length l % 2) e,
    )

pub returns-then-not-is_code : goal.returns-then-not-is_code
returns-then-not-is_code g c = λ test same.
    let s = c.in-Some.ensures.steps in
    bad test _ _ _ (s.1.1 ∙ c.loop-pair.invariant.0) s.1.0 (sym (same _ _ c.if-not-is_code.ensures))
    ∙ c.loop-pair.invariant.1 test same

pub loop-pair-preserved : goal.loop-pair-preserved
loop-pair-preserved g c =
    let s = c.in-Some.ensures.steps in (
      s.0 ∙ c.loop-pair.invariant.0,
      (λ test same.
          good test _ _ _ (s.1.1 ∙ c.loop-pair.invariant.0) s.1.0 (sym (same _ _ c.if-not-is_code.ensures))
          ∙ c.loop-pair.invariant.1 test same),
      omega (arith, s.1.1, c.loop-pair.invariant.0, c.loop-pair.invariant.2, ap length s.1.0, length-append c.in-Some.pair.now c.next.new.self.rest.now),
    )

pub returns : goal.returns
returns g c = λ test same.
    let s = c.in-None.ensures.steps in
    ended test _ (omega (arith, s.1.0, c.loop-pair.invariant.0)) (omega (arith, c.loop-pair.invariant.2, c.if-pairs-eq1.false))
    ∙ c.loop-pair.invariant.1 test same
