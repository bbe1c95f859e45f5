-- Numbers of four bytes, the high byte first; lists made element by element.
use Rattle.std.specs.Prelude.{ℕ, zero, suc, ◌+◌, ◌*◌, ◌/◌, ◌%◌, List, [], ◌∷◌, ◌++◌, length, get_or, take, drop}

-- The number in the four bytes from `at` on.
abbrev pub number_at : List ℕ → ℕ → ℕ
number_at b at =
    (get_or b at 0 * 256 + get_or b (at + 1) 0) * 65536 + (get_or b (at + 2) 0 * 256 + get_or b (at + 3) 0)

-- A number as four bytes.
abbrev pub four_of : ℕ → List ℕ
four_of n = n / 16777216 % 256 ∷ n / 65536 % 256 ∷ n / 256 % 256 ∷ n % 256 ∷ []

-- The n bytes from `at` on.
abbrev pub bytes_at : List ℕ → ℕ → ℕ → List ℕ
bytes_at b at n = take n (drop at b)

-- Bytes in place of as many from `at` on.
abbrev pub with_bytes : List ℕ → ℕ → List ℕ → List ℕ
with_bytes out at bytes = (take at out ++ bytes) ++ drop (at + length bytes) out

-- What f makes of 0, 1 and so on: n elements.
unfoldable pub each : {A : Type 0} → ℕ → (ℕ → A) → List A
each zero f = []
each (suc n) f = each n f ++ (f n ∷ [])

-- The bytes of each element, one after another.
unfoldable pub bytes_of_all : {A : Type 0} → (A → List ℕ) → List A → List ℕ
bytes_of_all f [] = []
bytes_of_all f (x ∷ l) = f x ++ bytes_of_all f l
