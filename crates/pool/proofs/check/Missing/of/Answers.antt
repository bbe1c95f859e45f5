-- `of` meets its contract: each radio of the list is marked, and they are counted.
use Rattle.std.proofs.Common.{ap₂, sym, ◌∙◌}
use lib.ListN.{length-set, drop_of_length-le}
use Rattle.pool.specs.Missing.{marked, table_of}
use Rattle.pool.proofs.Laws.Missing.{one-marked}
use Rattle.pool.proofs.check.Missing.of.Goals as goal

pub loop-radio-preserved : goal.loop-radio-preserved
loop-radio-preserved c = (
  length-set c.loop-radio.missing.radios _ _ ∙ c.loop-radio.invariant.0,
  c.loop-radio.invariant.1,
  c.loop-radio.invariant.2 ∙ one-marked c.args.radios.now c.loop-radio.radio-index c.loop-radio.missing.radios c.loop-radio-test.true,
)

pub returns : goal.returns
unfolding marked
returns c =
    let none = drop_of_length-le c.args.radios.now {i = c.loop-radio.radio-index} c.loop-radio-test.false in
    ap₂ table_of (sym (c.loop-radio.invariant.2 ∙ rw none)) c.loop-radio.invariant.1
