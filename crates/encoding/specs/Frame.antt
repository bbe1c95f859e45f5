-- "Frames": a call is its code and a party byte; an answer is its code, the party, the woken party
-- and the number, most significant byte first.
use Rattle.std.specs.Prelude.{ℕ, ◌-◌, ◌/◌, ◌%◌, Bool, cond, List, [], ◌∷◌, eqb, ℤ, pos, negsuc}
use Rattle.hub.specs.declared.moves.Op.{Op}
use Rattle.hub.specs.Answers.{Printed}
use Rattle.hub.specs.Basics.{among}
use Rattle.encoding.specs.declared.answer.Print.{Print}

-- 10 ask, 11 step, 12 give up, 13 give back, 14 which radio.
abbrev pub is_call : ℕ → Bool
is_call c = among (0x10 ∷ 0x11 ∷ 0x12 ∷ 0x13 ∷ 0x14 ∷ []) c

abbrev pub op_of : ℕ → Op
op_of c =
    cond (eqb c 0x10) Op.Acquire
    (cond (eqb c 0x11) Op.Step
    (cond (eqb c 0x12) Op.Cancel (cond (eqb c 0x13) Op.Release Op.Radio)))

abbrev pub code_of : Op → ℕ
code_of Op.Acquire = 0x10
code_of Op.Step = 0x11
code_of Op.Cancel = 0x12
code_of Op.Release = 0x13
code_of Op.Radio = 0x14

-- What the code prints, on paper.
abbrev pub paper : Print → Printed
paper p = record { code = p.code; woken = p.woken; number = p.number }

-- The seven bytes of an answer to a party.
abbrev pub frame_of : ℕ → Printed → List ℕ
frame_of p r =
    r.code ∷ p ∷ r.woken % 256 ∷ r.number / 16777216 % 256 ∷ r.number / 65536 % 256
    ∷ r.number / 256 % 256 ∷ r.number % 256 ∷ []

-- A signed number in four bytes, two's complement: −1 is FFFFFFFF.
abbrev pub twos_complement : ℤ → ℕ
twos_complement (pos n) = n
twos_complement (negsuc n) = 0xFFFFFFFF - n
