-- The single cases hold: the table's test computes to true.
use mathlib.Core.Path.{refl}
use Rattle.hub.specs.Basics.{weight, all_from, all_of}
use Rattle.hub.specs.Fits.{in_window, place_listed}
use Rattle.hub.specs.Kinds.{kind_in}
use Rattle.hub.specs.Phases.{is_one_of, is_place_of}
use Rattle.hub.specs.Ring.{read_seat, write_seat, skip, retire}
use Rattle.hub.specs.Table.{given_up}
use Rattle.latch.specs.Calls.{checked, apply, tidied}
use Rattle.latch.specs.Edges.{EdgesHold, edges, goes, holds_at, all_hold}
use Rattle.latch.specs.Fits.{figures_fit, ticket_fits, slot_fits, party_fits, place_fits, fits}
use Rattle.latch.specs.Look.{seen_by}
use Rattle.latch.specs.Opening.{fresh, opening_if}
use Rattle.latch.specs.Record.{read_slot, write_slot}
use Rattle.latch.specs.Table.{await, cancel, count_down, decide, step_in, step_acquiring}
use Rattle.latch.specs.Table.{step_suspending, step_ticketed, step_releasing, step_resuming}
use Rattle.latch.specs.Table.{resume_waiter, step_resuming_at, step_aborting, step_cancelling}
use Rattle.latch.specs.Table.{step_refusing}

pub edges-hold : EdgesHold
unfolding EdgesHold edges goes holds_at all_hold checked apply tidied fresh opening_if
    seen_by figures_fit in_window ticket_fits slot_fits place_listed party_fits place_fits fits skip retire
    await cancel given_up count_down decide step_in step_acquiring step_suspending step_ticketed step_releasing
    step_resuming resume_waiter step_resuming_at step_aborting step_cancelling step_refusing
    is_one_of is_place_of read_slot write_slot read_seat write_seat kind_in weight all_from all_of
edges-hold = refl
