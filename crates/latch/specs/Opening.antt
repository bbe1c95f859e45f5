-- Opening a latch with N and n, with refusals 3 and 18.
use Rattle.std.specs.Prelude.{ℕ, Bool, true, false, ◌&&◌, leb, replicate, Result, Ok, Err}
use Rattle.hub.specs.Basics.{up_to32}
use Rattle.hub.specs.Record.{PARTIES, empty_seat}
use Rattle.hub.specs.Ring.{PLACES}
use Rattle.latch.specs.declared.opening.LatchRefusal.{LatchRefusal}
use Rattle.latch.specs.declared.record.Latch.{Latch}
use Rattle.latch.specs.declared.record.LatchFigures.{LatchFigures}
use Rattle.latch.specs.Record.{free_slot}

-- How an opening goes, and the record that it makes.
pub data Start : Type 0 where
  BadParties : Start
  BadCount : Start
  Opened : Start

pub record LatchOpening : Type 0 where
  pub start : Start
  pub latch : Latch

-- The paper's numbers.
abbrev pub start_code : Start → ℕ
start_code Start.BadParties = 3
start_code Start.BadCount = 18
start_code Start.Opened = 0x1F

-- The most that N may be.
abbrev pub MAX_COUNT : ℕ
MAX_COUNT = 200

-- 1 to 200.
abbrev pub up_to200 : ℕ → Bool
up_to200 c = leb 1 c && leb c MAX_COUNT

abbrev pub figures_at : ℕ → LatchFigures
figures_at c = record { count = c; waiters = 0; issued = 0; resumed = 0; begun = 0 }

-- The record of a latch just opened.
unfoldable pub fresh : ℕ → ℕ → Latch
fresh c n =
    record {
      parties = n;
      figures = figures_at c;
      oldest = 0;
      places = replicate PLACES empty_seat;
      slots = replicate PARTIES free_slot;
    }

-- A refused opening makes no record; what stands in its place refuses every call by 1.
abbrev pub not_opened : Start → LatchOpening
not_opened x = record { start = x; latch = fresh 0 0 }

-- 3, then 18.
unfoldable pub opening_if : Bool → Bool → ℕ → ℕ → LatchOpening
opening_if false b c n = not_opened Start.BadParties
opening_if true false c n = not_opened Start.BadCount
opening_if true true c n = record { start = Start.Opened; latch = fresh c n }

abbrev pub opening : ℕ → ℕ → LatchOpening
opening c n = opening_if (up_to32 n) (up_to200 c) c n

-- How an opening goes that is refused so, and its number.
abbrev pub start_of : LatchRefusal → Start
start_of LatchRefusal.BadParties = Start.BadParties
start_of LatchRefusal.BadCount = Start.BadCount

abbrev pub refusal_code : LatchRefusal → ℕ
refusal_code why = start_code (start_of why)

-- What an opening hands back: the record, or why there is none.
abbrev pub made_by : Start → Latch → Result Latch LatchRefusal
made_by Start.BadParties h = Err LatchRefusal.BadParties
made_by Start.BadCount h = Err LatchRefusal.BadCount
made_by Start.Opened h = Ok h

abbrev pub made : LatchOpening → Result Latch LatchRefusal
made o = made_by o.start o.latch

-- The opening that handed this back.
abbrev pub opened_by : Result Latch LatchRefusal → LatchOpening
opened_by (Ok h) = record { start = Start.Opened; latch = h }
opened_by (Err why) = not_opened (start_of why)
