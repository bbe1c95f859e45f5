-- How a run of a latch ends, and what it leaves in the buffer.
use Rattle.std.specs.Prelude.{ℕ, ◌*◌, ◌/◌, Bool, true, false, List, ◌++◌, leb, length, drop, Result, Ok, Err}
use Rattle.hub.specs.Basics.{up_to32}
use Rattle.latch.specs.declared.opening.LatchRefusal.{LatchRefusal}
use Rattle.latch.specs.declared.record.Latch.{Latch}
use Rattle.latch.specs.Opening.{fresh, refusal_code, up_to200}
use Rattle.latchbatch.specs.Batch.{frames_of}
use Rattle.run.specs.Bytes.{well_formed}
use Rattle.latchrun.specs.Bytes.{calls_of, is_call}
use Rattle.latchrun.specs.declared.LatchRunError.{LatchRunError}

-- How a run ends: done, or why it is not made.
abbrev pub LatchRan : Type 0
LatchRan = Result (Unit {0}) LatchRunError

pub record Ended : Type 0 where
  pub ran : LatchRan
  pub out : List ℕ

-- The answers, from a record on, in front of what the buffer holds past them.
abbrev pub written : Latch → List ℕ → List ℕ → List ℕ
written h calls out = frames_of h (calls_of calls) ++ drop (7 * (length calls / 2)) out

-- 3, 18, malformed, no room, in that order; a refused run leaves the buffer alone, and a run that is done
-- writes seven bytes for each call and leaves the rest alone.
unfoldable pub run_if : Bool → Bool → Bool → Bool → ℕ → ℕ → List ℕ → List ℕ → Ended
run_if false b w m c n calls out = record { ran = Err (LatchRunError.NotOpened LatchRefusal.BadParties); out = out }
run_if true false w m c n calls out = record { ran = Err (LatchRunError.NotOpened LatchRefusal.BadCount); out = out }
run_if true true false m c n calls out = record { ran = Err LatchRunError.Malformed; out = out }
run_if true true true false c n calls out = record { ran = Err LatchRunError.NoRoom; out = out }
run_if true true true true c n calls out =
    record { ran = Ok tt; out = written (fresh c n) calls out }

abbrev pub run_of : ℕ → ℕ → List ℕ → List ℕ → Ended
run_of c n calls out =
    run_if (up_to32 n) (up_to200 c) (well_formed is_call calls) (leb (length calls / 2) (length out / 7)) c n calls
    out

-- The end of a run as a number, for callers in other languages.
abbrev pub error_code : LatchRunError → ℕ
error_code (LatchRunError.NotOpened x) = refusal_code x
error_code LatchRunError.Malformed = 254
error_code LatchRunError.NoRoom = 255

abbrev pub ran_code : LatchRan → ℕ
ran_code (Ok u) = 0
ran_code (Err why) = error_code why
