-- The book as bytes, for C and Rust: 200 locks of four bytes, high byte first.
use Rattle.std.specs.Prelude.{ℕ, ◌+◌, ◌*◌, Bool, cond, List, [], ◌∷◌, ◌++◌, eqb, length, get_or, take, drop}
use Rattle.doorbook.specs.Book.{answer_to, code_of, is_accepted, lock_at}
use Rattle.doorbook.specs.Frame.{number, door_of}

unfoldable pub locks_of : List ℕ → List ℕ
locks_of [] = []
locks_of (a ∷ []) = []
locks_of (a ∷ b ∷ []) = []
locks_of (a ∷ b ∷ c ∷ []) = []
locks_of (a ∷ b ∷ c ∷ d ∷ bytes) = number a b c d ∷ locks_of bytes

abbrev pub is_book : List ℕ → Bool
is_book bytes = eqb (length bytes) 800

-- The four bytes of the new lock, as they stand in the frame, at the place of four bytes.
abbrev pub fitted_at : ℕ → List ℕ → List ℕ → List ℕ
fitted_at at bytes f =
    take at bytes ++ (get_or f 2 0 ∷ get_or f 3 0 ∷ get_or f 4 0 ∷ get_or f 5 0 ∷ []) ++ drop (at + 4) bytes

-- An accepted frame puts the new lock at the door; a refused one leaves every byte alone.
unfoldable pub bytes_after : List ℕ → List ℕ → List ℕ
bytes_after bytes f =
    cond (is_accepted (answer_to (locks_of bytes) f)) (fitted_at (4 * door_of f) bytes f) bytes

-- What a caller in another language gets, and what its bytes then are: 255, with nothing written,
-- if they are no book.
abbrev pub enter_code : List ℕ → List ℕ → ℕ
enter_code bytes f = cond (is_book bytes) (code_of (answer_to (locks_of bytes) f)) 255

abbrev pub enter_bytes : List ℕ → List ℕ → List ℕ
enter_bytes bytes f = cond (is_book bytes) (bytes_after bytes f) bytes

-- The lock at a door; no lock stands in bytes that are no book.
abbrev pub lock_in : List ℕ → ℕ → ℕ
lock_in bytes d = cond (is_book bytes) (lock_at (locks_of bytes) d) 0
