-- Whether there is room for one more ticket, as far as a call has to know: only await has to.
use Rattle.std.specs.Prelude.{Bool, false}
use Rattle.latch.specs.declared.moves.LatchOp.{LatchOp}

abbrev pub full_for : LatchOp → Bool → Bool
full_for LatchOp.Await full = full
full_for LatchOp.Step full = false
full_for LatchOp.Cancel full = false
full_for LatchOp.CountDown full = false
