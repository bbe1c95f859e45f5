-- `release_on` meets its contract: its tests, in order, are those of the definition.
use Rattle.std.proofs.Common.{rules, arith, ◌≡◌, length, sym}
use Rattle.screen.specs.Line.{waiters}
use Rattle.screen.proofs.Laws.Fit.{fit, rest-zero}
use Rattle.screen.proofs.Laws.Answers.{first_small, handed-over, holds_not, none-waits, party-small, some-wait, the-next}
use Rattle.screen.proofs.Laws.Answers.{returns as gives_back}
use Rattle.screen.proofs.Laws.Chains.{no-first}
use Rattle.screenmove.proofs.release_on.Goals as goal

pub bounds-line-party : goal.bounds-line-party
bounds-line-party c = party-small _ _ (fit c.args.line.now c.requires.line_value) c.requires.party_lt_parties

pub returns-then-not-line-party : goal.returns-then-not-line-party
returns-then-not-line-party c = sym (holds_not _ _ c.if-not-line-party.true)

pub waiters-requires : goal.waiters-requires
waiters-requires c = (fit c.args.line.now c.requires.line_value).short

pub leave-requires-clause-rest_zero : goal.leave-requires-clause-rest_zero
leave-requires-clause-rest_zero c = rest-zero _ c.requires.line_value

pub leave-requires-clause-waiting_bound : goal.leave-requires-clause-waiting_bound
leave-requires-clause-waiting_bound c = (fit c.args.line.now c.requires.line_value).short

pub leave-requires-clause-at_lt_waiting : goal.leave-requires-clause-at_lt_waiting
leave-requires-clause-at_lt_waiting c =
    let f = fit c.args.line.now c.requires.line_value in
    some-wait _ f (search rules) _ c.waiters.ensures c.in-Some.ensures.item.3.0

pub bounds-next-first : goal.bounds-next-first
bounds-next-first c =
    let f = fit c.args.line.now c.requires.line_value in
    let size : length c.args.line.now.queue ≡ 32 = search rules in
    let some = some-wait _ f size _ c.waiters.ensures c.in-Some.ensures.item.3.0 in
    omega (arith, the-next _ f size _ c.waiters.ensures _ c.in-Some.ensures.item.3.1, first_small _ f size some)

pub returns-in-Some : goal.returns-in-Some
unfolding waiters
returns-in-Some c =
    let f = fit c.args.line.now c.requires.line_value in
    let size : length c.args.line.now.queue ≡ 32 = search rules in
    handed-over c.args.line.now _ c.args.party _ c.if-not-line-party.false
    (some-wait _ f size _ c.waiters.ensures c.in-Some.ensures.item.3.0)
    (the-next _ f size _ c.waiters.ensures _ c.in-Some.ensures.item.3.1) c.leave.ensures

pub returns-in_default : goal.returns-in_default
returns-in_default c =
    let f = fit c.args.line.now c.requires.line_value in
    let empty = none-waits _ f (search rules) _ c.waiters.ensures (no-first _ c.in_default.ensures.item.0) in
    sym (gives_back c.args.line.now c.args.party c.if-not-line-party.false empty)
