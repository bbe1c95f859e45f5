-- `join` meets its contract: the bytes of the queue are those that wait, and behind them 0.
use Rattle.std.proofs.Common.{rules, arith}
use Rattle.screen.proofs.Laws.Moves.{joins}
use Rattle.screenmove.proofs.queue.join.Goals as goal

pub returns : goal.returns
returns c = joins c.args.line.now (search rules) (omega arith) c.requires.rest_zero c.args.party c.requires.waiting_bound
