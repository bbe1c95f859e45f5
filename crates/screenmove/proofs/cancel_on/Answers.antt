-- `cancel_on` meets its contract: its tests, in order, are those of the definition.
use Rattle.std.proofs.Common.{rules, tests, arith, ◌≡◌, ◌<◌, ℕ, eqb, true, length, sym, ap, ◌∙◌}
use Rattle.std.proofs.lemmas.Iterator.{YieldsList-from_slice}
use Rattle.std.proofs.lemmas.Iterator.Search.{position_from_yields_List}
use Rattle.std.specs.List.{position}
use Rattle.hub.specs.Basics.{among}
use Rattle.screen.specs.Line.{place_of, waiters}
use Rattle.screen.specs.Moves.{accepted_move}
use Rattle.screen.proofs.Laws.Fit.{fit, rest-zero}
use Rattle.screen.proofs.Laws.Moves.{waiters-length}
use Rattle.screen.proofs.Laws.Answers.{cancels, has-place, leaves-place, may-not, waits-not}
use Rattle.screen.proofs.Laws.Chains.{stands, stands-not}
use Rattle.screenmove.proofs.cancel_on.Goals as goal
use Rattle.screenmove.proofs.cancel_on.Goals.{After-position, In-Some}

sought : (c : After-position) → c.position.result ≡ position (λ (y : ℕ). eqb y c.args.party) (waiters c.args.line.now)
sought c =
    position_from_yields_List (λ (y : ℕ). eqb y c.args.party) _ _ _ c.position.ensures.ran
    (YieldsList-from_slice (waiters c.args.line.now) (c.iter.ensures.rest ∙ c.waiters.ensures))
    (λ x b q k. search (rules, tests))

-- The party waits, and there.
there : (c : In-Some) → (c.in-Some.at ≡ place_of c.args.party (waiters c.args.line.now))
    × (c.in-Some.at < length (waiters c.args.line.now))
there c = stands (waiters c.args.line.now) c.args.party c.in-Some.at (sym (sought c.before) ∙ c.in-Some.is)

place : (c : In-Some) → c.in-Some.at < c.args.line.now.waiting
place c =
    let size : length c.args.line.now.queue ≡ 32 = search rules in
    omega (arith, (there c).1, waiters-length c.args.line.now (fit _ c.requires) size)

waits : (c : In-Some) → among (waiters c.args.line.now) c.args.party ≡ true
waits c = has-place c.args.line.now (fit _ c.requires) (search rules) _ _ (there c).0 (place c)

pub waiters-requires : goal.waiters-requires
waiters-requires c = (fit _ c.requires).short

pub returns-in_default : goal.returns-in_default
returns-in_default c =
    sym (waits-not _ _ (stands-not (waiters c.args.line.now) c.args.party (sym (sought c.before) ∙ c.in_default.is)))

pub returns-then-kind_in-eq3 : goal.returns-then-kind_in-eq3
returns-then-kind_in-eq3 c =
    sym (may-not _ _ (waits c.before.before.before) (sym c.kind_in.ensures ∙ c.if-kind_in-eq3.true))

pub leave-requires-clause-rest_zero : goal.leave-requires-clause-rest_zero
leave-requires-clause-rest_zero c = rest-zero _ c.requires

pub leave-requires-clause-waiting_bound : goal.leave-requires-clause-waiting_bound
leave-requires-clause-waiting_bound c = (fit _ c.requires).short

pub leave-requires-clause-at_lt_waiting : goal.leave-requires-clause-at_lt_waiting
leave-requires-clause-at_lt_waiting c = place c.before.before.before.before.before

pub returns : goal.returns
returns c =
    let s = c.before.before.before.before.before.before in
    ap accepted_move (c.leave.ensures ∙ leaves-place _ (fit _ c.requires) (search rules) _ _ (there s).0)
    ∙ sym (cancels _ _ (waits s) (λ i. c.if-kind_in-eq3.false (c.kind_in.ensures ∙ i)))
