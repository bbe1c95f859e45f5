-- The claim: a run of `hub_operate` that is done wrote what the screen tells, operation by operation.
use Rattle.std.specs.Prelude.{ℕ, ◌*◌, ◌/◌, ◌≡◌, true, cond, List, [], ◌∷◌, ◌++◌, eqb, leb, length, drop}
use Rattle.hub.specs.declared.answers.Answer.{Answer}
use Rattle.hub.specs.declared.opening.Opening.{Opening}
use Rattle.hub.specs.Answers.{printed}
use Rattle.hub.specs.Opening.{opening}
use Rattle.operations.specs.declared.Told.{Told}
use Rattle.run.specs.Bytes.{well_formed}
use Rattle.perform.specs.Bytes.{is_operation_code}
use Rattle.operate.specs.Ending.{operated_from}
use Rattle.screen.specs.declared.record.Operation.{Operation}
use Rattle.screen.specs.Moves.{line_opening}
use Rattle.screen.specs.Reached.{DeskRequest}
use Rattle.shown.specs.Shows.{NoSixOrSeven, hub_told, line_told}

-- The clerk's requests that bytes are, two each: 10 ask, 12 give up, 13 give back.
abbrev pub operation_in : ℕ → Operation
operation_in c = cond (eqb c 0x10) Operation.Acquire (cond (eqb c 0x12) Operation.Cancel Operation.Release)

unfoldable pub requests_of : List ℕ → List DeskRequest
requests_of [] = []
requests_of (c ∷ []) = []
requests_of (c ∷ p ∷ l) = record { operation = operation_in c; party = p } ∷ requests_of l

-- What is told of operations as bytes, three each: 20 or the refusal, the party that was woken, the steps.
unfoldable pub told_bytes : List Told → List ℕ
told_bytes [] = []
told_bytes (x ∷ xs) = (printed x.answer).code ∷ x.woken ∷ x.steps ∷ told_bytes xs

-- For every opening that is accepted, every list of operations and every buffer with room for the answers, as long
-- as no ask meets 6 or 7. `operated_from` is what `hub_operate` promises for the opening's frame.
unfoldable pub WritesShown : Type 0
WritesShown =
    (o : Opening) → (opening o).answer ≡ Answer.Opened → (operations out : List ℕ)
    → well_formed is_operation_code operations ≡ true → leb (length operations / 2) (length out / 3) ≡ true
    → let rs = requests_of operations in
    NoSixOrSeven (hub_told (opening o).hub rs)
    → operated_from (opening o) operations out
    ≡ record {
      result = 0;
      out = told_bytes (line_told (line_opening o).line rs) ++ drop (3 * (length operations / 2)) out;
    }
