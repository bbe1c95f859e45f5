-- `leave` meets its contract: those behind the place have moved up.
use Rattle.std.proofs.Common.{rules}
use Rattle.screen.proofs.Laws.Moves.{leaves}
use Rattle.screen.proofs.Laws.Places.{shifted}
use Rattle.screenmove.proofs.queue.leave.Goals as goal

pub returns : goal.returns
returns c =
    let moved = c.copy_within.ensures.by_index in
    leaves c.args.line.now (search rules) c.requires.waiting_bound c.requires.rest_zero c.args.at c.copy_within.new.self
    (shifted _ _ _ _ (search rules) c.requires.waiting_bound c.requires.at_lt_waiting moved.0 moved.1 moved.2)
