-- `decide_await` meets its contract. `await` is a keyword of the code, so that no attribute can open it.
use Rattle.std.proofs.Common.{rules}
use Rattle.hub.specs.Phases.{is_one_of}
use Rattle.latch.specs.Table.{await, decide}
use Rattle.latchdecide.proofs.others.decide_await.Goals as goal

pub returns-in_default : goal.returns-in_default
unfolding decide await is_one_of
returns-in_default c = search rules

pub returns-then-begun-ge-MAX_BEGUN : goal.returns-then-begun-ge-MAX_BEGUN
unfolding decide await is_one_of
returns-then-begun-ge-MAX_BEGUN c = search rules

pub returns-then-full : goal.returns-then-full
unfolding decide await is_one_of
returns-then-full c = search rules

pub returns : goal.returns
unfolding decide await is_one_of
returns c = search rules
