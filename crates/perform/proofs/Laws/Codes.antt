-- The codes of the three operations.
use Prim.Native.Nat.{ℕ}
use mathlib.Core.Path.{◌≡◌, refl, sym, subst}
use mathlib.Core.Bool.{Bool, true, false, true≢false, ◌||◌}
use borrow.Author.Tests.{eqb-true}
use lib.Dec.{eqb}
use Rattle.encoding.specs.Frame.{op_of}
use Rattle.operations.specs.AtRest.{is_operation}
use Rattle.perform.specs.Bytes.{is_operation_code}

-- What holds of the three holds of each that passes the test.
pub among-three : (P : ℕ → Type 0) → P 0x10 → P 0x12 → P 0x13
    → (c : ℕ) → is_operation_code c ≡ true → P c
among-three P a b d c = go (eqb c 0x10) refl (eqb c 0x12) refl (eqb c 0x13) refl
  where
    go : (x : Bool) → eqb c 0x10 ≡ x → (y : Bool) → eqb c 0x12 ≡ y → (z : Bool) → eqb c 0x13 ≡ z
        → x || (y || (z || false)) ≡ true → P c
    go true ex y ey z ez e = subst P (sym (eqb-true c 0x10 ex)) a
    go false ex true ey z ez e = subst P (sym (eqb-true c 0x12 ey)) b
    go false ex false ey true ez e = subst P (sym (eqb-true c 0x13 ez)) d
    go false ex false ey false ez e = absurd (true≢false (sym e))

pub an-operation : (c : ℕ) → is_operation_code c ≡ true → is_operation (op_of c) ≡ true
an-operation = among-three (λ c. is_operation (op_of c) ≡ true) refl refl refl
