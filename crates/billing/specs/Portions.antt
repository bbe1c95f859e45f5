-- The code's table of exact portions: the cents of a party, and what remains.
use Rattle.std.specs.Prelude.{ℕ, List, get_or}
use Rattle.billing.specs.declared.Portion.{Portion}

abbrev pub nothing : Portion
nothing = record { cents = 0; remainder = 0 }

abbrev pub cents_at : List Portion → ℕ → ℕ
cents_at portions p = (get_or portions p nothing).cents

abbrev pub remainder_at : List Portion → ℕ → ℕ
remainder_at portions p = (get_or portions p nothing).remainder
