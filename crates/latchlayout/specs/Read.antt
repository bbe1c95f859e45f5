-- The record that 1523 bytes are. Every list of bytes is one.
use Rattle.std.specs.Prelude.{ℕ, ◌+◌, ◌*◌, ◌%◌, List, eqb, get_or}
use Rattle.hub.specs.Record.{PARTIES}
use Rattle.latch.specs.declared.record.Latch.{Latch}
use Rattle.latch.specs.declared.record.LatchFigures.{LatchFigures}
use Rattle.latch.specs.declared.record.LatchSlot.{LatchSlot}
use Rattle.cells.specs.Bytes.{each, number_at}
use Rattle.cells.specs.Phases.{marked, phase_named}
use Rattle.cells.specs.Places.{places_at}

-- Bytes 1 to 14.
abbrev pub figures_in : List ℕ → LatchFigures
figures_in b =
    record {
      count = get_or b 1 0;
      waiters = get_or b 2 0;
      issued = number_at b 3;
      resumed = number_at b 7;
      begun = number_at b 11;
    }

-- Party p: a phase and a ticket from byte 1299 on, the hand-overs left from 1459 on, the mark from 1491 on. A phase
-- counts modulo 15, and raising, 14, is asked with more said beside it.
abbrev pub name_in : List ℕ → ℕ → ℕ
name_in b p = get_or b (1299 + 5 * p) 0 % 15

abbrev pub slot_in : List ℕ → ℕ → LatchSlot
slot_in b p =
    record {
      phase = marked (phase_named (name_in b p) (number_at b (1300 + 5 * p))) (get_or b (1491 + p) 0);
      raising = eqb (name_in b p) 14;
      left = get_or b (1459 + p) 0;
    }

abbrev pub slots_in : List ℕ → List LatchSlot
slots_in b = each PARTIES (slot_in b)

abbrev pub record_in : List ℕ → Latch
record_in b =
    record {
      parties = get_or b 0 0;
      figures = figures_in b;
      oldest = number_at b 15;
      places = places_at b 19;
      slots = slots_in b;
    }
