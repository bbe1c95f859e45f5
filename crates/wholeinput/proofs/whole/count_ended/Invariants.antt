-- `count_ended` meets its contract: those counted are the ends of lines in what is passed.
use Rattle.std.proofs.Common.{take, eqb, ◌≡◌, ◌≤◌}
use Rattle.std.specs.List.{count_by}
use Rattle.wholeinput.proofs.whole.count_ended.Given as goal

abbrev pub invariant-loop-c : goal.invariant-loop-c
invariant-loop-c l = (l.n ≤ l.c-index) × (l.n ≡ count_by (λ c. eqb c 0x0A) (take l.c-index l.input))
