-- `operate` meets its contract: the call, and then the steps of its party, if the call is not refused.
use mathlib.Core.Path.{◌≡◌}
use Rattle.torest.proofs.Laws.{Walking}
use Rattle.torest.proofs.operate.Given as goal

abbrev pub invariant-loop : goal.invariant-loop
invariant-loop l =
    (l.done.answer ≡ l.initial.done.answer)
    × Walking l.initial.done.hub l.party l.initial.done.woken l.done.woken l.done.steps l.done.hub
    × (l.done.steps ≡ l.counter)
