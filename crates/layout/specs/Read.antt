-- The record that 1881 bytes are. Every list of bytes is one.
use Rattle.std.specs.Prelude.{ℕ, ◌+◌, ◌-◌, ◌*◌, ◌%◌, cond, List, leb, ℤ, pos, negsuc, get_or}
use Rattle.hub.specs.declared.record.Figures.{Figures}
use Rattle.hub.specs.declared.record.Hub.{Hub}
use Rattle.hub.specs.declared.record.PartySlot.{PartySlot}
use Rattle.hub.specs.Record.{PARTIES, control_of, free_slot, of_fields, with_phase}
use Rattle.cells.specs.Bytes.{each, number_at}
use Rattle.cells.specs.Phases.{marked, phase_named}
use Rattle.cells.specs.Places.{places_at}
use Rattle.radiobytes.specs.Read.{opening_of_bytes, pool_in}

-- A number from its two's complement.
abbrev pub signed : ℕ → ℤ
signed n = cond (leb n 0x7FFFFFFF) (pos n) (negsuc (0xFFFFFFFF - n))

-- Bytes 2 to 17.
abbrev pub figures_in : List ℕ → Figures
figures_in b =
    record {
      counter = signed (number_at b 2);
      issued = number_at b 6;
      resumed = number_at b 10;
      begun = number_at b 14;
    }

-- Party p: a phase and a ticket from byte 1302 on, the mark from 1817 on. A phase counts modulo 14.
abbrev pub slot_in : List ℕ → ℕ → PartySlot
slot_in b p =
    with_phase
    (marked (phase_named (get_or b (1302 + 5 * p) 0 % 14) (number_at b (1303 + 5 * p))) (get_or b (1817 + p) 0))
    free_slot

abbrev pub slots_in : List ℕ → List PartySlot
slots_in b = each PARTIES (slot_in b)

abbrev pub record_in : List ℕ → Hub
record_in b =
    of_fields (places_at b 22) (slots_in b) (control_of (opening_of_bytes b) (figures_in b) (number_at b 18) (pool_in b))
