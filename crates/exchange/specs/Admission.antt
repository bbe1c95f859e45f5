-- What is answered before the table is asked.
use Rattle.std.specs.Prelude.{ℕ, cond, ◌==◌, nat_lt, Result, Ok, Err}
use Rattle.encoding.specs.Frame.{is_call}
use Rattle.exchange.specs.declared.admission.Unasked.{Unasked}

-- The code of a call needs a party below n; 1 is an opening, and any other code malformed.
unfoldable pub admission_of : ℕ → ℕ → ℕ → Result (Unit {0}) Unasked
admission_of c p n =
    cond (is_call c)
    (cond (nat_lt p n) (Ok tt) (Err (Unasked.NoSuchParty p)))
    (cond (c == 0x01) (Err Unasked.AlreadyOpen) (Err Unasked.Malformed))

-- What is replied then: the party that is named, and the code.
abbrev pub party_of : Unasked → ℕ
party_of (Unasked.NoSuchParty p) = p
party_of Unasked.Malformed = 0xFF
party_of Unasked.AlreadyOpen = 0xFF

abbrev pub code_of : Unasked → ℕ
code_of (Unasked.NoSuchParty p) = 4
code_of Unasked.Malformed = 12
code_of Unasked.AlreadyOpen = 13
