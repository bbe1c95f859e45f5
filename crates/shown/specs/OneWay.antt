-- The steps of an operation are the only ones: after its call nobody but its party is busy, so that busy parties
-- cannot come to rest in another order or number of steps.
use Rattle.std.specs.Prelude.{ℕ, ◌≡◌, true, List, map}
use Rattle.hub.specs.declared.moves.Call.{Call}
use Rattle.hub.specs.declared.record.Hub.{Hub}
use Rattle.hub.specs.Calls.{called}
use Rattle.hub.specs.Calm.{BusySteps, rests, step_by, stepped}
use Rattle.operations.specs.AtRest.{OnRest, is_operation}
use Rattle.operations.specs.Operation.{steps_after}

-- Parties that step after a call, each of them busy when its turn comes, until nobody is.
abbrev pub ToRest : Hub → Call → List ℕ → Type 0
ToRest h c ps =
    BusySteps (called h c).hub ps × ((p : ℕ) → rests (stepped (called h c).hub ps) p ≡ true)

unfoldable pub OneWay : Type 0
OneWay =
    OnRest (λ h.
    (c : Call) → is_operation c.op ≡ true → (ps : List ℕ) → ToRest h c ps
    → map step_by ps ≡ steps_after h c)
