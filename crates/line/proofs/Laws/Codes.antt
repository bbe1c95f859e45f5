-- Which bytes are the code of a call.
use Prim.Native.Nat.{ℕ, zero, suc, ◌+◌, ◌-◌, ◌≤◌, ◌<◌}
use mathlib.Core.Path.{◌≡◌, refl, sym, subst, ◌∙◌}
use mathlib.Core.Bool.{Bool, true, false}
use native.Mathlib.Decide.{dec_le}
use native.Mathlib.Omega.{arith}
use borrow.Author.Tests.{ne_eqb}
use Rattle.hub.specs.declared.moves.Op.{Op}
use Rattle.encoding.specs.Frame.{is_call, op_of, code_of}

-- The codes of the calls are 16 to 20.
pub no_code : (c : ℕ) → ((k : ℕ) → 16 ≤ k → k ≤ 20 → c ≡ k → ⊥) → is_call c ≡ false
no_code c f =
    rw (
      ne_eqb c 16 (f 16 (omega arith) (omega arith)),
      ne_eqb c 17 (f 17 (omega arith) (omega arith)),
      ne_eqb c 18 (f 18 (omega arith) (omega arith)),
      ne_eqb c 19 (f 19 (omega arith) (omega arith)),
      ne_eqb c 20 (f 20 (omega arith) (omega arith)),
    )

pub under : (c : ℕ) → c < 16 → is_call c ≡ false
under c l = no_code c (λ k a b e. omega arith)

pub over : (c : ℕ) → 20 < c → is_call c ≡ false
over c l = no_code c (λ k a b e. omega arith)

-- What holds of the five holds of each code between them.
among-five : (P : ℕ → Type 0) → P 16 → P 17 → P 18 → P 19 → P 20
    → (c : ℕ) → 16 ≤ c → c ≤ 20 → P c
among-five P p q r s t c a b = subst P (sym (apart c a)) (go (c - 16) (omega arith))
  where
    apart : (c : ℕ) → 16 ≤ c → c ≡ 16 + (c - 16)
    apart c a = omega arith

    go : (d : ℕ) → d ≤ 4 → P (16 + d)
    go zero l = p
    go (suc zero) l = q
    go (suc (suc zero)) l = r
    go (suc (suc (suc zero))) l = s
    go (suc (suc (suc (suc zero)))) l = t
    go (suc (suc (suc (suc (suc d))))) l = absurd (omega arith)

pub a-code : (c : ℕ) → 16 ≤ c → c ≤ 20 → is_call c ≡ true
a-code = among-five (λ c. is_call c ≡ true) refl refl refl refl refl

pub code-back : (c : ℕ) → 16 ≤ c → c ≤ 20 → code_of (op_of c) ≡ c
code-back = among-five (λ c. code_of (op_of c) ≡ c) refl refl refl refl refl

-- What is a code names an operation of that code.
pub call-back : (c : ℕ) → is_call c ≡ true → code_of (op_of c) ≡ c
call-back c e = go (dec_le 16 c) (dec_le c 20)
  where
    not-both : is_call c ≡ false → ⊥
    not-both f = let z : ◌≡◌ {A = Bool} true false = sym e ∙ f in let n : ◌≡◌ {A = ℕ} 0 1 = cc in omega arith

    go : Dec (16 ≤ c) → Dec (c ≤ 20) → code_of (op_of c) ≡ c
    go (yes a) (yes b) = code-back c a b
    go (yes a) (no b) = absurd (not-both (over c (omega arith)))
    go (no a) b = absurd (not-both (under c (omega arith)))

-- The code of an operation is a call's, and says which.
pub is-call : (o : Op) → is_call (code_of o) ≡ true
is-call Op.Acquire = refl
is-call Op.Step = refl
is-call Op.Cancel = refl
is-call Op.Release = refl
is-call Op.Radio = refl

pub op-back : (o : Op) → op_of (code_of o) ≡ o
op-back Op.Acquire = refl
op-back Op.Step = refl
op-back Op.Cancel = refl
op-back Op.Release = refl
op-back Op.Radio = refl
