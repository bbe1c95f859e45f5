-- `run` hands on an answerer that is sound from its beginning.
use Rattle.stream.proofs.run.Given as goal

abbrev pub invariant-loop : goal.invariant-loop
invariant-loop g l = g.A.Answerer.sound l.answerer
