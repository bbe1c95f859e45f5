-- "The links they got, counted from the answer lines 21, 25 and 2A, the woken party for 2A. A line is
-- 7 bytes. Other lines, a shorter rest and a party not below n count for nobody."
use Rattle.std.specs.Prelude.{ℕ, zero, suc, ◌+◌, ◌*◌, ◌/◌, Bool, cond, List, [], ◌∷◌, eqb, length, get_or}
use Rattle.hub.specs.Basics.{among, bit}

-- The sum of f over the numbers below n.
unfoldable pub sum : (ℕ → ℕ) → ℕ → ℕ
sum f zero = 0
sum f (suc n) = sum f n + f n

-- How many numbers below n pass a test.
abbrev pub count_below : (ℕ → Bool) → ℕ → ℕ
count_below f n = sum (λ i. bit (f i)) n

-- f at each number below n.
unfoldable pub table : ℕ → (ℕ → ℕ) → List ℕ
table zero f = []
table (suc n) f = f 0 ∷ table n (λ i. f (suc i))

-- The lines of some bytes, whole sevens; the code, the party and the woken party of line i.
abbrev pub lines_in : List ℕ → ℕ
lines_in l = length l / 7

abbrev pub code_at : List ℕ → ℕ → ℕ
code_at l i = get_or l (7 * i) 0

abbrev pub party_at : List ℕ → ℕ → ℕ
party_at l i = get_or l (7 * i + 1) 0

abbrev pub woken_at : List ℕ → ℕ → ℕ
woken_at l i = get_or l (7 * i + 2) 0

-- The party that a line gives a link: 21 and 25 give it to their party, 2A to the woken one. Other
-- lines give none: to FF, which is no party.
unfoldable pub receiver_of : ℕ → ℕ → ℕ → ℕ
receiver_of code party woken =
    cond (among (0x21 ∷ 0x25 ∷ []) code) party (cond (eqb code 0x2A) woken 0xFF)

-- Does line i give party p a link?
unfoldable pub grants : List ℕ → ℕ → ℕ → Bool
grants l p i = eqb (receiver_of (code_at l i) (party_at l i) (woken_at l i)) p

-- The links that party p got.
unfoldable pub grants_of : List ℕ → ℕ → ℕ
grants_of l p = count_below (grants l p) (lines_in l)
