-- A table of the radios that the check has still to meet, and how many they are.
use Rattle.std.specs.Prelude.{ℕ, ◌≡◌, ◌-◌, Bool, true, false, not, cond, Option, Some, None, eqb}
use Rattle.std.specs.Prelude.{List, [], ◌∷◌, length, get_or, set, replicate}
use Rattle.std.specs.List.{list_all}
use Rattle.hub.specs.Basics.{bit, weight}
use Rattle.pool.specs.declared.check.Missing.{Missing}

abbrev pub table_of : List Bool → ℕ → Missing
table_of t n = record { radios = t; count = n }

-- The table of a list's radios.
unfoldable pub marked : List ℕ → List Bool → List Bool
marked [] t = t
marked (r ∷ l) t = marked l (set t r true)

abbrev pub missing_of : List ℕ → Missing
missing_of l = table_of (marked l (replicate 256 false)) (length l)

-- What is missing after the radios of a list are met, one after another; nothing if one is met that is not missing.
unfoldable pub met : List ℕ → Missing → Option Missing
met [] m = Some m
met (r ∷ l) m = cond (get_or m.radios r false) (met l (table_of (set m.radios r false) (m.count - 1))) None

-- Is no radio left in the table?
abbrev pub none_missing : Missing → Bool
none_missing m = list_all not m.radios

-- The count of a table is that of the radios in it.
abbrev pub Counted : Missing → Type 0
Counted m = m.count ≡ weight bit m.radios

-- Is the count 0? Of a table that is counted this is `none_missing`.
abbrev pub none_counted : Missing → Bool
none_counted m = eqb m.count 0

-- The table that a method leaves behind, if each radio that it met was missing.
abbrev pub left_by : Option (Unit {0}) → Missing → Option Missing
left_by (Some _) m = Some m
left_by None m = None
