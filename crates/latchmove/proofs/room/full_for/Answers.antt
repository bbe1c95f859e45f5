-- `full_for` meets its contract: only an await has to know, and 32 parties are all that could draw a
-- ticket.
use Prim.Native.Nat.{◌+◌}
use mathlib.Core.Path.{◌≡◌, sym, ap, ◌∙◌}
use mathlib.Core.Bool.{Bool}
use borrow.Author.Rules.{rules}
use borrow.Author.Tests.{lt-leb}
use native.Mathlib.Omega.{arith}
use lib.ListN.{length}
use Rattle.latch.specs.declared.moves.LatchOp.{LatchOp}
use Rattle.hub.specs.Basics.{count}
use Rattle.latch.specs.Calls.{is_full}
use Rattle.hub.specs.Phases.{draws_ticket}
use Rattle.latch.specs.Record.{phases_of}
use Rattle.latchmove.specs.Room.{full_for}
use Rattle.latchmove.proofs.Laws.Counting.{draws-few}
use Rattle.latchmove.proofs.room.full_for.Goals as goal

-- It is an await that comes past the first test.
an-await : (o : LatchOp) (full b : Bool) → o ≡ LatchOp.Await → b ≡ full → b ≡ full_for o full
an-await o full b is e = e ∙ ap (λ (o : LatchOp). full_for o full) (sym is)

pub returns-then-issued-parties : goal.returns-then-issued-parties
returns-then-issued-parties c =
    let a = c.args in
    let size : length a.slots ≡ 32 = search rules in
    an-await a.op (is_full a.oldest a.issued a.slots) _ c.in-Await.is
    (sym (lt-leb (a.oldest + 256) (a.issued + count draws_ticket (phases_of a.slots))
    (omega (arith, c.if-issued-parties.true, size, draws-few a.slots))))
