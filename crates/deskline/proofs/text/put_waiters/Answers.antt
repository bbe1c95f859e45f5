-- `put_waiters` meets its contract: those written and those still to come are all that wait.
use Rattle.std.proofs.Common.{rules, arith, ◌≡◌, ◌+◌, List, ℕ, length, subst}
use lib.ListN.{drop_of_length-le}
use Rattle.deskline.specs.Text.{numbers, put_at}
use Rattle.deskline.proofs.Laws.Numbers.{few-wait, listed-all, listed-none, listed-one, next-of, number-room}
use Rattle.deskline.proofs.text.put_waiters.Goals as goal

pub loop-party-init : goal.loop-party-init
loop-party-init c = listed-none _ _ _ (search rules)

pub put_number-end-requires : goal.put_number-end-requires
put_number-end-requires c =
    number-room c.loop-party.invariant
    (omega (arith, few-wait c.args.line.now _ c.waiters-party-items.ensures c.requires.waiting_bound))

pub loop-party-preserved : goal.loop-party-preserved
loop-party-preserved c =
    listed-one c.loop-party.invariant
    (omega (arith, few-wait c.args.line.now _ c.waiters-party-items.ensures c.requires.waiting_bound))
    (next-of _ _ c.loop-party-test.true)
    c.put_number-end.ensures.0 c.put_number-end.ensures.1

pub returns-clause-value : goal.returns-clause-value
returns-clause-value c =
    subst
    (λ (w : List ℕ).
    (c.loop-party.end ≡ c.args.at + length (numbers w)) × (c.loop-party.out ≡ put_at c.args.at (numbers w) c.args.out.now))
    c.waiters-party-items.ensures
    (listed-all c.loop-party.invariant (drop_of_length-le _ {i = c.loop-party.party-index} (omega arith)))
