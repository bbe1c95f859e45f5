-- `with` meets its contract: what is met of those that are left is what is met of all.
use mathlib.Core.Path.{sym, ◌∙◌}
use Rattle.std.proofs.lemmas.Slice.Zip.{Zip-more, either_empty_from_Zip}
use Rattle.pool.proofs.Laws.Missing.{all-seen, none-here, not-missing, nothing-left, one-met, one-over, was-missing}
use Rattle.pool.proofs.check.Missing.with.Goals as goal

pub returns-in_err-meet : goal.returns-in_err-meet
returns-in_err-meet g c =
    let turn = Zip-more c.loop-keeper.keeper-iterator c.next.new.self _ _ c.in-Some.is c.next.ensures.steps in
    nothing-left _ _ c.from_residual.ensures
    ∙ sym (c.loop-keeper.invariant
    ∙ one-over g.K.Keeper.keeps _ _ _ _ _ _ _ turn.0 turn.1 (sym c.keeps.ensures ∙ c.if-keeps.true)
    (not-missing _ _ c.meet.ensures c.in_err-meet.was))

pub loop-keeper-preserved-in-Continue-1 : goal.loop-keeper-preserved-in-Continue-1
loop-keeper-preserved-in-Continue-1 g c =
    let turn = Zip-more c.loop-keeper.keeper-iterator c.next.new.self _ _ c.in-Some.is c.next.ensures.steps in
    c.loop-keeper.invariant
    ∙ one-met g.K.Keeper.keeps _ _ _ _ _ _ _ turn.0 turn.1 (sym c.keeps.ensures ∙ c.if-keeps.true) _
    (was-missing _ _ c.meet.ensures c.in_ok-meet.was)

pub loop-keeper-preserved : goal.loop-keeper-preserved
loop-keeper-preserved g c =
    let turn = Zip-more c.loop-keeper.keeper-iterator c.next.new.self _ _ c.in-Some.is c.next.ensures.steps in
    c.loop-keeper.invariant
    ∙ none-here g.K.Keeper.keeps _ _ _ _ _ _ _ turn.0 turn.1 (sym c.keeps.ensures ∙ c.if-keeps.false)

pub returns : goal.returns
returns g c =
    let over = either_empty_from_Zip c.loop-keeper.keeper-iterator c.next.new.self _ c.in-None.is c.next.ensures.steps in
    sym (c.loop-keeper.invariant ∙ all-seen g.K.Keeper.keeps _ _ _ over)
