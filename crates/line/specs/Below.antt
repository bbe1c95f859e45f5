-- A number that says by its size that there is none, as an option.
use Rattle.std.specs.Prelude.{ℕ, cond, ltb, Option, Some, None}

-- The number, if it is below n.
abbrev pub if_below : ℕ → ℕ → Option ℕ
if_below n x = cond (ltb x n) (Some x) None
