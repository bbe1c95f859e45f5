-- `acquire_on` meets its contract: its tests, in order, are those of the definition.
use Rattle.std.proofs.Common.{rules, arith, ◌≡◌, length, sym, ap, ◌∙◌}
use Rattle.screen.specs.Moves.{accepted_move}
use Rattle.screen.proofs.Laws.Fit.{fit, rest-zero}
use Rattle.screen.proofs.Laws.Answers.{acquires, has_room_lem, holds-already, party-small, queues, waits-already}
use Rattle.screen.proofs.Laws.Chains.{among-told}
use Rattle.screenmove.proofs.acquire_on.Goals as goal
use Rattle.screenmove.proofs.acquire_on.Goals.{then-line-party-via-then-line-party, then-line-party-via-else-line-party+then-contains}

pub bounds-line-party : goal.bounds-line-party
bounds-line-party c = party-small _ _ (fit c.args.line.now c.requires.line_value) c.requires.party_lt_parties

pub waiters-requires : goal.waiters-requires
waiters-requires c = (fit c.args.line.now c.requires.line_value).short

pub returns-then-line-party : goal.returns-then-line-party
returns-then-line-party c =
    elim c.then-line-party.branch [
      | then-line-party-via-then-line-party w ↦ sym (holds-already _ _ w.if-line-party.true)
      | then-line-party-via-else-line-party+then-contains w ↦
          sym (waits-already _ _ w.if-line-party.false (among-told c.args.party w.contains.ensures.value w.waiters.ensures w.if-contains.true))
    ]

pub bounds-next-party : goal.bounds-next-party
bounds-next-party c = party-small _ _ (fit c.args.line.now c.requires.line_value) c.requires.party_lt_parties

pub returns-then-holder_count-line : goal.returns-then-holder_count-line
returns-then-holder_count-line c =
    sym (acquires c.args.line.now c.args.party c.if-line-party.false (among-told c.args.party c.contains.ensures.value c.waiters.ensures c.if-contains.false)
    (omega (arith, c.holder_count.ensures, c.if-holder_count-line.true)))

pub join-requires-clause-rest_zero : goal.join-requires-clause-rest_zero
join-requires-clause-rest_zero c = rest-zero _ c.requires.line_value

pub join-requires-clause-waiting_bound : goal.join-requires-clause-waiting_bound
join-requires-clause-waiting_bound c =
    let holders-size : length c.args.line.now.holding ≡ 32 = search rules in
    let size : length c.args.line.now.queue ≡ 32 = search rules in
    has_room_lem c.args.line.now c.args.party (fit c.args.line.now c.requires.line_value) size holders-size
    c.requires.party_lt_parties c.if-line-party.false (among-told c.args.party c.contains.ensures.value c.waiters.ensures c.if-contains.false)
    (omega (arith, c.holder_count.ensures, c.if-holder_count-line.false))

pub returns-else-holder_count-line : goal.returns-else-holder_count-line
returns-else-holder_count-line c =
    ap accepted_move c.join.ensures
    ∙ sym (queues c.args.line.now c.args.party c.if-line-party.false (among-told c.args.party c.contains.ensures.value c.waiters.ensures c.if-contains.false)
    (omega (arith, c.holder_count.ensures, c.if-holder_count-line.false)))
