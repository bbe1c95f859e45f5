-- A whole operation: a call (of an operation ask, give up or give back), then the party's own steps until it is at rest, three at
-- most; a refused one has none, so that it leaves the record alone. On a hub at rest that is until nobody is busy:
-- AtRest.antt claims it.
use Rattle.std.specs.Prelude.{ℕ, zero, suc, Bool, cond, List, [], ◌∷◌, eqb, ltb, length}
use Rattle.hub.specs.declared.answers.Answer.{Answer}
use Rattle.hub.specs.declared.moves.Call.{Call}
use Rattle.hub.specs.declared.record.Hub.{Hub}
use Rattle.hub.specs.declared.record.Outcome.{Outcome}
use Rattle.hub.specs.Answers.{printed}
use Rattle.hub.specs.Calls.{called}
use Rattle.hub.specs.Calm.{rests, step_by}
use Rattle.hub.specs.Schedule.{Entry, entries, run}
use Rattle.operations.specs.declared.Operated.{Operated}
use Rattle.operations.specs.declared.Told.{Told}

-- The steps of party p from h on until it is at rest, at most n.
unfoldable pub steps_of : ℕ → Hub → ℕ → List Call
steps_of zero h p = []
steps_of (suc n) h p = cond (rests h p) [] (step_by p ∷ steps_of n (called h (step_by p)).hub p)

-- On a hub at rest no operation takes more.
abbrev pub MOST_STEPS : ℕ
MOST_STEPS = 3

-- Is an answer a refusal, a code below 20?
abbrev pub turns_down : Answer → Bool
turns_down y = ltb (printed y).code 0x20

-- The steps after a call that left o.
abbrev pub steps_from : Outcome → ℕ → List Call
steps_from o p = cond (turns_down o.answer) [] (steps_of MOST_STEPS o.hub p)

abbrev pub steps_after : Hub → Call → List Call
steps_after h c = steps_from (called h c) c.party

-- The party that an answer shows as woken, FF if none does.
unfoldable pub woken_in : List Entry → ℕ
woken_in [] = 0xFF
woken_in (e ∷ es) = cond (eqb e.answer.woken 0xFF) (woken_in es) e.answer.woken

-- The call and its steps, run on the hub.
unfoldable pub operated : Hub → Call → Operated
operated h c =
    let calls = c ∷ steps_after h c in
    record {
      answer = (called h c).answer;
      woken = woken_in (entries h calls);
      steps = length (steps_after h c);
      hub = run h calls;
    }

-- What is told of it.
abbrev pub told_of : Operated → Told
told_of r = record { answer = r.answer; woken = r.woken; steps = r.steps }
