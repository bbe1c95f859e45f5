-- A schedule: a list of calls, each on the record that the one before it left.
use Rattle.std.specs.Prelude.{List, [], ◌∷◌}
use Rattle.hub.specs.declared.answers.Answer.{Answer}
use Rattle.hub.specs.Answers.{Printed, printed}
use Rattle.latch.specs.declared.moves.LatchCall.{LatchCall}
use Rattle.latch.specs.declared.record.Latch.{Latch}
use Rattle.latch.specs.Calls.{called}

-- The record that it leaves.
unfoldable pub run : Latch → List LatchCall → Latch
run h [] = h
run h (c ∷ cs) = run (called h c).latch cs

-- Its answers.
unfoldable pub answers : Latch → List LatchCall → List Answer
answers h [] = []
answers h (c ∷ cs) = (called h c).answer ∷ answers (called h c).latch cs

-- What a bystander sees: each call, and its answer on paper.
pub record Entry : Type 0 where
  pub call : LatchCall
  pub answer : Printed

unfoldable pub entries : Latch → List LatchCall → List Entry
entries h [] = []
entries h (c ∷ cs) =
    record { call = c; answer = printed (called h c).answer } ∷ entries (called h c).latch cs
