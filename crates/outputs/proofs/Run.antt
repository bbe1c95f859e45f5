-- The paper's run holds: both sides compute to the same characters.
use mathlib.Core.Path.{refl}
use Rattle.hub.specs.Basics.{weight, all_from, all_of, all_pass}
use Rattle.hub.specs.Calls.{checked, tidied, apply}
use Rattle.hub.specs.Fits.{counter_fits, figures_fit, in_window, ticket_fits, place_listed, party_fits}
use Rattle.hub.specs.Fits.{place_fits, radios_fit, kinds_fit, state_fits, fits}
use Rattle.hub.specs.Kinds.{has_desk, kind_in, kinds_known}
use Rattle.hub.specs.Look.{seen_by}
use Rattle.hub.specs.Opening.{fresh, opening_if, radios_differ}
use Rattle.hub.specs.Phases.{is_one_of, is_place_of}
use Rattle.hub.specs.Radios.{hand_of, pool_after}
use Rattle.hub.specs.Record.{read_slot, write_slot}
use Rattle.hub.specs.Ring.{read_seat, write_seat, skip, retire}
use Rattle.hub.specs.Table.{step_acquiring, step_suspending, step_ticketed, step_releasing, step_resuming}
use Rattle.hub.specs.Table.{resume_waiter, step_resuming_at, step_aborting, step_cancelling, step_refusing}
use Rattle.hub.specs.Table.{row_in, acquire, cancel, given_up, release, decide}
use Rattle.encoding.specs.Hex.{digit_of}
use Rattle.line.specs.Requests.{all_digits, bytes_of, given_kinds, opening_in, requested, spelled_by, request_of}
use Rattle.line.specs.Program.{when_open, before_open, respond, replies, after, rendered, lines_from}
use Rattle.line.specs.Program.{output_of}
use Rattle.outputs.specs.Run.{in_digits, inputs, outputs, RunHolds}

pub run_holds : RunHolds
unfolding RunHolds in_digits inputs outputs digit_of all_digits bytes_of given_kinds opening_in requested
    spelled_by request_of
    when_open before_open respond replies after rendered lines_from output_of fresh opening_if radios_differ
    checked tidied apply counter_fits figures_fit in_window ticket_fits place_listed party_fits place_fits
    radios_fit kinds_fit state_fits hand_of pool_after fits skip retire read_seat write_seat seen_by step_acquiring step_suspending step_ticketed
    step_releasing step_resuming resume_waiter step_resuming_at step_aborting step_cancelling step_refusing
    row_in acquire cancel given_up release decide is_one_of is_place_of read_slot write_slot kind_in kinds_known has_desk weight
    all_from all_of all_pass
run_holds = refl
