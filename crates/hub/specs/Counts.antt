-- What a record shows of "Counting links".
use Rattle.std.specs.Prelude.{◌+◌, ◌-◌, ◌≡◌, List}
use Rattle.hub.specs.declared.answers.Answer.{Answer}
use Rattle.hub.specs.declared.record.Counts.{Counts}
use Rattle.hub.specs.declared.moves.Call.{Call}
use Rattle.hub.specs.declared.opening.Opening.{Opening}
use Rattle.hub.specs.declared.record.Hub.{Hub}
use Rattle.hub.specs.Basics.{count}
use Rattle.hub.specs.Ledger.{at_counter}
use Rattle.hub.specs.Opening.{opening}
use Rattle.hub.specs.Phases.{holds, resumes, refuses, is_waiting, is_permit, is_refused}
use Rattle.hub.specs.Record.{phases_of, places_of}
use Rattle.hub.specs.Schedule.{run}

unfoldable pub counts_of : Hub → Counts
counts_of h =
    let phases = phases_of h.slots in
    let places = places_of h.places in
    let coming = count resumes phases + count is_permit places in
    let declined = count refuses phases + count is_refused places in
    record {
      held = count holds phases;
      available = at_counter h.control.figures.counter;
      coming = coming;
      declined = declined;
      onway = coming - declined;
      waiting = count is_waiting phases;
    }

-- On every schedule from an accepted opening they add up to K, and nothing is cut off.
unfoldable pub CountsAddUp : Type 0
CountsAddUp =
    (o : Opening) → (opening o).answer ≡ Answer.Opened → (cs : List Call)
    → let c = counts_of (run (opening o).hub cs) in
    (c.held + c.available + c.onway ≡ o.permits) × (c.onway + c.declined ≡ c.coming)
