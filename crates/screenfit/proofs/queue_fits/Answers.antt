-- `queue_fits` meets its contract: a party that is marked holds, or was met before.
use Rattle.std.proofs.Common.{rules, arith, sym, subst}
use Rattle.screen.proofs.Laws.Fit.{Waits}
use Rattle.screen.proofs.Laws.Walks.{all-met, met-now, met-twice, misfit, too-high, walked_all, walked_none}
use Rattle.screenfit.proofs.queue_fits.Goals as goal

pub loop-party-init : goal.loop-party-init
loop-party-init c = walked_none _ _ _ (search rules) (search rules)

pub returns-then-line-party : goal.returns-then-line-party
returns-then-line-party c =
    let l = c.args.line.now in
    misfit _ (λ s.
    too-high _ _ _ _ _ c.loop-party.invariant (omega arith) (omega arith)
    (subst (Waits l.holding l.parties) (sym c.waiters-party-items.ensures) s))

pub returns-then-met-party : goal.returns-then-met-party
returns-then-met-party c =
    let l = c.args.line.now in
    misfit _ (λ s.
    met-twice _ _ _ _ _ c.loop-party.invariant (omega arith) c.if-met-party.true
    (subst (Waits l.holding l.parties) (sym c.waiters-party-items.ensures) s))

pub loop-party-preserved : goal.loop-party-preserved
loop-party-preserved c =
    met-now _ _ _ _ _ c.loop-party.invariant (omega arith) (omega arith) c.if-met-party.false

pub returns : goal.returns
returns c =
    let l = c.args.line.now in
    all-met _ (search rules)
    (subst (Waits l.holding l.parties) c.waiters-party-items.ensures (walked_all _ _ _ _ _ c.loop-party.invariant (omega arith)))
