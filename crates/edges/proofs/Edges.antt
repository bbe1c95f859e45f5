-- The paper's edges hold: the table's test computes to true.
use mathlib.Core.Path.{refl}
use Rattle.hub.specs.Basics.{weight, all_from, all_of, all_pass}
use Rattle.hub.specs.Kinds.{has_desk, kind_in, kinds_known}
use Rattle.hub.specs.Record.{read_slot, write_slot}
use Rattle.hub.specs.Ring.{read_seat, write_seat, skip, retire}
use Rattle.hub.specs.Phases.{is_one_of, is_place_of}
use Rattle.hub.specs.Look.{seen_by}
use Rattle.hub.specs.Table.{acquire, cancel, given_up, release, decide, row_in, step_acquiring}
use Rattle.hub.specs.Table.{step_suspending, step_ticketed, step_releasing, step_resuming}
use Rattle.hub.specs.Table.{resume_waiter, step_resuming_at, step_aborting, step_cancelling}
use Rattle.hub.specs.Table.{step_refusing, step_fetching, step_storing, tell_radio}
use Rattle.hub.specs.Radios.{differ, hand_of, laid_at, moved, pool_after, radios_in, radios_of}
use Rattle.hub.specs.Radios.{rearranged, ring_from, shown, padded}
use Rattle.hub.specs.Fits.{counter_fits, figures_fit, in_window, ticket_fits, place_listed}
use Rattle.hub.specs.Fits.{party_fits, place_fits, radios_fit, kinds_fit, state_fits, fits}
use Rattle.hub.specs.Opening.{fresh, opening_if, radios_differ}
use Rattle.hub.specs.Calls.{checked, apply, tidied}
use Rattle.edges.specs.Edges.{EdgesHold, edges, goes, holds_at, all_hold}

pub edges-hold : EdgesHold
unfolding EdgesHold edges goes holds_at all_hold checked apply tidied fresh opening_if
    seen_by counter_fits figures_fit in_window ticket_fits place_listed party_fits place_fits kinds_fit state_fits fits skip retire
    acquire cancel given_up release decide row_in step_acquiring step_suspending step_ticketed step_releasing
    step_resuming resume_waiter step_resuming_at step_aborting step_cancelling step_refusing
    step_fetching step_storing tell_radio
    differ hand_of laid_at moved pool_after radios_in radios_of rearranged ring_from shown padded radios_differ
    radios_fit is_one_of is_place_of read_slot write_slot read_seat write_seat kind_in kinds_known has_desk weight all_from all_of all_pass
edges-hold = refl
