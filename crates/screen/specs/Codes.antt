-- The codes of the clerks' operations.
use Rattle.std.specs.Prelude.{ℕ, Result, Ok, Err, cond, eqb}
use Rattle.screen.specs.declared.record.Operation.{Operation}
use Rattle.screen.specs.declared.record.UnknownOperation.{UnknownOperation}

-- Ask is 10, give up 12, give back 13; no other code is an operation's.
abbrev pub operation_coded : ℕ → Result Operation UnknownOperation
operation_coded c =
    cond (eqb c 0x10) (Ok Operation.Acquire)
    (cond (eqb c 0x12) (Ok Operation.Cancel)
    (cond (eqb c 0x13) (Ok Operation.Release) (Err (record { 0 = c }))))
