-- A whole input into a buffer.
use Rattle.std.specs.Prelude.{ℕ, Bool, false, not, cond, List, [], ◌∷◌, ◌++◌, eqb, leb, length, drop, slice_index}
use Rattle.line.specs.Program.{output_of}

-- Is the last line of an input left without its end mark?
abbrev pub unended : List ℕ → Bool
unended [] = false
unended (c ∷ cs) = not (eqb (slice_index (c ∷ cs) (length cs)) 0x0A)

-- Is there room for the whole output?
abbrev pub has_room : List ℕ → List ℕ → Bool
has_room input out = leb (length (output_of input)) (length out)

-- How many characters are written: all of them, or none.
abbrev pub size : List ℕ → List ℕ → ℕ
size input out = cond (has_room input out) (length (output_of input)) 0

-- The buffer then: what it held past the output is left alone, and without room all of it is.
abbrev pub filled : List ℕ → List ℕ → List ℕ
filled input out =
    cond (has_room input out) (output_of input ++ drop (length (output_of input)) out) out
