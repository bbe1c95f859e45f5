-- `differ` meets its contract: a radio that is marked was met before.
use Rattle.std.proofs.Common.{take}
use Rattle.hub.proofs.Laws.Radios.{Met}
use Rattle.openhub.proofs.differ.Given as goal

abbrev pub invariant-loop-radio : goal.invariant-loop-radio
invariant-loop-radio l = Met (take l.fn.count l.fn.radios) l.met l.radio-index
