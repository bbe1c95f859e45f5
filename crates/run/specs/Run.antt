-- How a run ends, and what it leaves in the buffer.
use Rattle.std.specs.Prelude.{ℕ, ◌*◌, ◌/◌, ◌≡◌, Bool, true, false, List, ◌++◌, eqb, leb, length, drop, Result, Ok, Err}
use Rattle.hub.specs.declared.record.Hub.{Hub}
use Rattle.hub.specs.declared.record.Outcome.{Outcome}
use Rattle.hub.specs.Answers.{printed, refusal_code}
use Rattle.hub.specs.Opening.{opening}
use Rattle.encoding.specs.Frame.{is_call}
use Rattle.line.specs.Requests.{Request, malformed, to_open, to_call}
use Rattle.run.specs.Bytes.{well_formed, calls_of, frames_of}
use Rattle.run.specs.declared.RunError.{RunError}

-- Why a run is not made, as a number, for callers in other languages.
abbrev pub error_code : RunError → ℕ
error_code RunError.BadOpening = 12
error_code (RunError.NotOpened why) = refusal_code why
error_code RunError.Malformed = 254
error_code RunError.NoRoom = 255

-- How a run ends: done, or why it is not made. And that as a number.
abbrev pub Ran : Type 0
Ran = Result (Unit {0}) RunError

abbrev pub ran_code : Ran → ℕ
ran_code (Ok u) = 0
ran_code (Err why) = error_code why

-- Each end has its own number, so that a promise of the number is one of the end.
unfoldable pub OwnNumbers : Type 0
OwnNumbers = (r q : Ran) → ran_code r ≡ ran_code q → r ≡ q

-- What a run gives, and what it leaves in the buffer.
pub record Ended : Type 0 where
  pub result : ℕ
  pub out : List ℕ

-- A run that is not done leaves the buffer alone.
abbrev pub unmade : ℕ → List ℕ → Ended
unmade c out = record { result = c; out = out }

-- What the opening is refused by, malformed requests, no room, in that order; a run that is done leaves these bytes.
unfoldable pub end_if : Bool → Bool → Bool → ℕ → List ℕ → List ℕ → Ended
end_if false w m c out done = unmade c out
end_if true false m c out done = unmade 254 out
end_if true true false c out done = unmade 255 out
end_if true true true c out done = record { result = 0; out = done }

-- Requests whose codes pass a test, answered in so many bytes each and written so, from what an opening is answered: 1F
-- if it is made.
abbrev pub end_from : (ℕ → Bool) → ℕ → (Hub → List ℕ → List ℕ → List ℕ) → Outcome → List ℕ → List ℕ → Ended
end_from passes width writes o requests out =
    let c = (printed o.answer).code in
    end_if (eqb c 0x1F) (well_formed passes requests) (leb (length requests / 2) (length out / width)) c out
    (writes o.hub requests out)

-- The opening as a frame; one that is malformed, or a call, opens nothing.
abbrev pub end_framed : (Outcome → List ℕ → List ℕ → Ended) → Request → List ℕ → List ℕ → Ended
end_framed run malformed requests out = unmade 12 out
end_framed run (to_call c) requests out = unmade 12 out
end_framed run (to_open o) requests out = run (opening o) requests out

-- The answers, from a record on, in front of what the buffer holds past them.
abbrev pub written : Hub → List ℕ → List ℕ → List ℕ
written h calls out = frames_of h (calls_of calls) ++ drop (7 * (length calls / 2)) out

-- A run of calls: seven bytes for each.
abbrev pub run_from : Outcome → List ℕ → List ℕ → Ended
run_from = end_from is_call 7 written

abbrev pub framed_run : Request → List ℕ → List ℕ → Ended
framed_run = end_framed run_from
