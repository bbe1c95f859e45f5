-- One turn of the tidying, from the places that it looks at.
use Rattle.std.specs.Prelude.{ℕ, ◌+◌, ◌-◌, Bool, cond, ◌&&◌, ltb}
use Rattle.hub.specs.declared.record.Place.{Place}
use Rattle.hub.specs.declared.record.PlaceSlot.{PlaceSlot}
use Rattle.hub.specs.Phases.{is_cancelled, is_done}
use Rattle.hub.specs.Record.{empty_seat, with_place}
use Rattle.hub.specs.Ring.{PLACES}
use Rattle.tidystep.specs.declared.TidyStep.{TidyStep}
use Rattle.tidystep.specs.declared.Tidying.{Tidying}

abbrev pub skip_turn : PlaceSlot → Tidying → TidyStep
skip_turn ahead t =
    record {
      ticket = t.resumed;
      seat = with_place Place.Done ahead;
      left = record { resumed = t.resumed + 1; oldest = t.oldest; skips = t.skips - 1; retires = t.retires };
    }

abbrev pub retire_turn : Tidying → TidyStep
retire_turn t =
    record {
      ticket = t.oldest;
      seat = empty_seat;
      left = record { resumed = t.resumed; oldest = t.oldest + 1; skips = 0; retires = t.retires - 1 };
    }

-- Nothing more is to do: what was there is stored.
abbrev pub last_turn : PlaceSlot → Tidying → TidyStep
last_turn behind t =
    record {
      ticket = t.oldest;
      seat = behind;
      left = record { resumed = t.resumed; oldest = t.oldest; skips = 0; retires = 0 };
    }

-- May the next ticket to resume, whose place this is, be skipped?
abbrev pub may_skip : PlaceSlot → Tidying → Bool
may_skip seat t = ltb 0 t.skips && (ltb t.resumed (t.oldest + PLACES) && is_cancelled seat.place)

unfoldable pub tidy_step : PlaceSlot → PlaceSlot → Tidying → TidyStep
tidy_step ahead behind t =
    cond (may_skip ahead t) (skip_turn ahead t) (cond (is_done behind.place) (retire_turn t) (last_turn behind t))
