-- What the table looks at, from what was read for a call.
use Rattle.std.specs.Prelude.{ℕ, Bool, cond, nat_le, nat_lt}
use Rattle.hub.specs.declared.moves.Sight.{Sight}
use Rattle.hub.specs.declared.record.Figures.{Figures}
use Rattle.hub.specs.declared.record.PartySlot.{PartySlot}
use Rattle.hub.specs.declared.record.PlaceSlot.{PlaceSlot}
use Rattle.hub.specs.Look.{sight_from}
use Rattle.hub.specs.Phases.{by_waiter}
use Rattle.hub.specs.Record.{PARTIES, free_slot}

-- The slot of the party that waits at a place, which is the one at hand; free where nobody waits.
abbrev pub waiter_by : PlaceSlot → PartySlot → PartySlot
waiter_by seat near = cond (nat_lt (by_waiter PARTIES (λ q. q) seat.place) PARTIES) near free_slot

abbrev pub sight_by : ℕ → ℕ → PartySlot → PlaceSlot → PartySlot → Figures → Bool → ℕ → ℕ → Sight
sight_by party kind slot seat near figures named radio stored =
    sight_from party kind slot seat (waiter_by seat near) figures named radio (nat_le 1 stored)
