-- Whether there is room for one more ticket, as far as a call has to know: only ask has to.
use Rattle.std.specs.Prelude.{Bool, false}
use Rattle.hub.specs.declared.moves.Op.{Op}

abbrev pub full_for : Op → Bool → Bool
full_for Op.Acquire full = full
full_for Op.Step full = false
full_for Op.Cancel full = false
full_for Op.Release full = false
full_for Op.Radio full = false
