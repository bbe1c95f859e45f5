-- How a run of operations ends, and what it leaves in the buffer: as a run of calls, but for the codes and three bytes for each.
use Rattle.std.specs.Prelude.{List, ℕ}
use Rattle.hub.specs.declared.record.Outcome.{Outcome}
use Rattle.line.specs.Requests.{Request}
use Rattle.run.specs.Run.{Ended, end_framed, end_from}
use Rattle.perform.specs.Bytes.{answers_written, is_operation_code}

abbrev pub operated_from : Outcome → List ℕ → List ℕ → Ended
operated_from = end_from is_operation_code 3 answers_written

abbrev pub operated_framed : Request → List ℕ → List ℕ → Ended
operated_framed = end_framed operated_from
