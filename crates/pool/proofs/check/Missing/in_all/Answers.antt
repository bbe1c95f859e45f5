-- `in_all` meets its contract: the three parts of the definition's list are met in its order.
use mathlib.Core.Path.{sym, ◌∙◌}
use Rattle.pool.proofs.Laws.Missing.{at-last-stored, not-missing, nothing-left, over-at-places, over-with-parties, was-missing}
use Rattle.pool.proofs.check.Missing.in_all.Goals as goal

pub returns-in_err-with : goal.returns-in_err-with
returns-in_err-with c =
    let h = c.args.hub.now in
    nothing-left _ _ c.from_residual.ensures
    ∙ sym (over-with-parties h.slots h.places h.control.pool c.args.self.now (not-missing _ _ c.with.ensures c.in_err-with.was))

pub returns-in_err-with-2 : goal.returns-in_err-with-2
returns-in_err-with-2 c =
    let h = c.args.hub.now in
    nothing-left _ _ c.from_residual-in_err-with-2.ensures
    ∙ sym (over-at-places h.slots h.places h.control.pool c.args.self.now c.with.new.self
    (was-missing _ _ c.with.ensures c.in_ok-with.was) (not-missing _ _ c.with-2.ensures c.in_err-with-2.was))

pub returns : goal.returns
returns c =
    let h = c.args.hub.now in
    c.in_store.ensures
    ∙ sym (at-last-stored h.slots h.places h.control.pool c.args.self.now c.with.new.self
    (was-missing _ _ c.with.ensures c.in_ok-with.was) c.with-2.new.self (was-missing _ _ c.with-2.ensures c.in_ok-with-2.was))
