-- What a call does.
use Rattle.std.specs.Prelude.{ℕ}
use Rattle.hub.specs.declared.answers.Answer.{Answer}
use Rattle.hub.specs.declared.answers.Refusal.{Refusal}
use Rattle.hub.specs.declared.record.PlaceSlot.{PlaceSlot}
use Rattle.latch.specs.declared.record.LatchFigures.{LatchFigures}
use Rattle.latch.specs.declared.record.LatchSlot.{LatchSlot}

-- What every call that is not refused changes, and what it answers.
pub record Change : Type 0 where
  pub slot : LatchSlot  -- of the party that calls
  pub figures : LatchFigures
  pub answer : Answer

pub data Move : Type 0 where
  Refuse : Refusal → Move
  Act : Change → Move
  -- the place of the party's ticket becomes this, too
  Put : PlaceSlot → Change → Move
  -- and so does the slot of the waiter of that number
  Wake : ℕ → LatchSlot → PlaceSlot → Change → Move
