-- "A frame holds 40, the door (1 byte), the new lock and the lock it supersedes (4 bytes each, high
-- byte first, 0 in the second for a first fitting)."
use Rattle.std.specs.Prelude.{ℕ, ◌+◌, ◌*◌, Bool, ◌&&◌, List, eqb, length, get_or}

-- Four bytes as a number, high byte first.
abbrev pub number : ℕ → ℕ → ℕ → ℕ → ℕ
number a b c d = a * 16777216 + b * 65536 + c * 256 + d

-- The number in the four bytes from the i-th on.
abbrev pub number_at : List ℕ → ℕ → ℕ
number_at l i = number (get_or l i 0) (get_or l (i + 1) 0) (get_or l (i + 2) 0) (get_or l (i + 3) 0)

-- Ten bytes, the first of them 40.
abbrev pub is_frame : List ℕ → Bool
is_frame f = eqb (length f) 10 && eqb (get_or f 0 0) 0x40

abbrev pub door_of : List ℕ → ℕ
door_of f = get_or f 1 0

abbrev pub new_lock : List ℕ → ℕ
new_lock f = number_at f 2

abbrev pub superseded : List ℕ → ℕ
superseded f = number_at f 6
