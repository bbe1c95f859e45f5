-- "Refusal 3 is read for n here, and 22 when the fee is above 1,000,000 cents or the lines exceed
-- 100,000,000 comes after it": by value, and for C and Rust in bytes.
use Rattle.std.specs.Prelude.{ℕ, zero, suc, ◌+◌, ◌*◌, ◌/◌, ◌%◌, Bool, true, false, cond, not, ◌||◌, List, [], ◌∷◌, ◌++◌, eqb, ltb, length, take, drop}
use Rattle.std.specs.Prelude.{Result, Ok, Err}
use Rattle.hub.specs.Basics.{up_to32}
use Rattle.billing.specs.declared.Refusal.{Refusal}
use Rattle.billing.specs.declared.Terms.{Terms}
use Rattle.billing.specs.Counting.{table, lines_in, grants_of}
use Rattle.billing.specs.Sharing.{share, up_to}

abbrev pub terms_of : ℕ → ℕ → List ℕ → Terms
terms_of n fee l = record { parties = n; fee = fee; grants = table 32 (grants_of l) }

-- The shares of 32 parties: 0 from n up.
abbrev pub shares_due : ℕ → ℕ → List ℕ → List ℕ
shares_due n fee l = up_to n (share (terms_of n fee l))

-- Of n parties, a fee in cents and the lines' bytes l: 3, then 22, else the shares.
unfoldable pub answer_to : ℕ → ℕ → List ℕ → Result (List ℕ) Refusal
answer_to n fee l =
    cond (not (up_to32 n)) (Err Refusal.BadParties)
    (cond (ltb 1000000 fee || ltb 100000000 (lines_in l)) (Err Refusal.TooMuch) (Ok (shares_due n fee l)))

abbrev pub number_of : Refusal → ℕ
number_of Refusal.BadParties = 3
number_of Refusal.TooMuch = 22

abbrev pub code_of : Result (List ℕ) Refusal → ℕ
code_of (Ok _) = 0
code_of (Err why) = number_of why

abbrev pub is_billed : Result (List ℕ) Refusal → Bool
is_billed (Ok _) = true
is_billed (Err _) = false

-- A number in four bytes, high byte first; these at the place of four bytes.
abbrev pub four_bytes : ℕ → List ℕ
four_bytes n = n / 16777216 % 256 ∷ n / 65536 % 256 ∷ n / 256 % 256 ∷ n % 256 ∷ []

abbrev pub written_at : ℕ → List ℕ → ℕ → List ℕ
written_at at bytes n = take at bytes ++ four_bytes n ++ drop (at + 4) bytes

-- The shares f of n parties in bytes.
unfoldable pub in_bytes : (ℕ → ℕ) → ℕ → List ℕ
in_bytes f zero = []
in_bytes f (suc n) = in_bytes f n ++ four_bytes (f n)

-- What a caller in another language gets: 3, 22, and 255 if the buffer has not four bytes for each
-- party. Unless it is 0 the buffer is left alone.
unfoldable pub bill_code : ℕ → ℕ → List ℕ → List ℕ → ℕ
bill_code n fee l out =
    let a = answer_to n fee l in
    cond (is_billed a) (cond (eqb (length out) (4 * n)) 0 255) (code_of a)

unfoldable pub bill_bytes : ℕ → ℕ → List ℕ → List ℕ → List ℕ
bill_bytes n fee l out =
    cond (eqb (bill_code n fee l out) 0) (in_bytes (share (terms_of n fee l)) n) out
