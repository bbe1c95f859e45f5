-- `in_store` meets its contract: the ring is read from its first on, as the definition reads it.
use mathlib.Core.Path.{sym, refl, ◌∙◌}
use Rattle.pool.proofs.Laws.Missing.{not-missing, nothing-left, ring-met, ring-over, ring-seen, was-missing}
use Rattle.pool.proofs.check.Missing.in_store.Goals as goal

pub returns-in_err-meet : goal.returns-in_err-meet
returns-in_err-meet c =
    let a = c.args in
    nothing-left _ _ c.from_residual.ensures
    ∙ sym (c.loop-i.invariant
    ∙ ring-over a.store.now a.first a.stored c.loop-i.i _ c.loop-i.self c.loop-i-test.true refl
    (not-missing _ _ c.meet.ensures c.in_err-meet.was))

pub loop-i-preserved : goal.loop-i-preserved
loop-i-preserved c =
    let a = c.args in
    c.loop-i.invariant
    ∙ ring-met a.store.now a.first a.stored c.loop-i.i _ c.loop-i.self c.meet.new.self c.loop-i-test.true refl
    (was-missing _ _ c.meet.ensures c.in_ok-meet.was)

pub returns : goal.returns
returns c =
    let a = c.args in
    sym (c.loop-i.invariant ∙ ring-seen a.store.now a.first a.stored c.loop-i.i c.loop-i.self c.loop-i-test.false)
