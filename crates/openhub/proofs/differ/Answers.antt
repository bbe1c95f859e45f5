-- `differ` meets its contract: a radio that is marked was met before.
use Rattle.std.proofs.Common.{rules}
use Rattle.hub.proofs.Laws.Radios.{met-again, met-all, met-new, met-none}
use Rattle.openhub.proofs.differ.Goals as goal

pub loop-radio-init : goal.loop-radio-init
loop-radio-init c = met-none _

pub returns-then-met-radio : goal.returns-then-met-radio
returns-then-met-radio c =
    met-again c.loop-radio.invariant c.loop-radio-test.true _ c.from-radio.ensures (search rules) c.if-met-radio.true

pub loop-radio-preserved : goal.loop-radio-preserved
loop-radio-preserved c =
    met-new c.loop-radio.invariant c.loop-radio-test.true _ c.from-radio.ensures (search rules) c.if-met-radio.false

pub returns : goal.returns
returns c = met-all c.loop-radio.invariant c.loop-radio-test.false
