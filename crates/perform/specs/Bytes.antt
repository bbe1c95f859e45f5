-- A list of operations as bytes, and the answers to it.
use Rattle.std.specs.Prelude.{ℕ, ◌+◌, ◌*◌, ◌/◌, Bool, List, [], ◌∷◌, ◌++◌, length, take, drop}
use Rattle.hub.specs.declared.moves.Call.{Call}
use Rattle.hub.specs.declared.record.Hub.{Hub}
use Rattle.hub.specs.Answers.{printed}
use Rattle.hub.specs.Basics.{among}
use Rattle.operations.specs.declared.Operated.{Operated}
use Rattle.operations.specs.Operation.{operated}
use Rattle.run.specs.Bytes.{calls_of}

-- 10 ask, 12 give up, 13 give back.
abbrev pub is_operation_code : ℕ → Bool
is_operation_code c = among (0x10 ∷ 0x12 ∷ 0x13 ∷ []) c

-- The three bytes of an answer: 20 or the refusal, the party that was woken, the steps taken.
abbrev pub answer_bytes : Operated → List ℕ
answer_bytes r = (printed r.answer).code ∷ r.woken ∷ r.steps ∷ []

-- The answers to operations, each on the record that the one before it left.
unfoldable pub answers_to : Hub → List Call → List ℕ
answers_to h [] = []
answers_to h (c ∷ cs) = answer_bytes (operated h c) ++ answers_to (operated h c).hub cs

-- They are written in front of what the buffer holds past them.
abbrev pub answers_written : Hub → List ℕ → List ℕ → List ℕ
answers_written h operations out =
    answers_to h (calls_of operations) ++ drop (3 * (length operations / 2)) out

-- A buffer in which the answer to operation i is written.
abbrev pub with_answer : ℕ → List ℕ → List ℕ → List ℕ
with_answer i text out = (take (3 * i) out ++ text) ++ drop (3 * i + 3) out
