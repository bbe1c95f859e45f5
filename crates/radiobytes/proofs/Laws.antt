-- What is chosen by a test, once the test is known.
use mathlib.Core.Path.{◌≡◌, ap}
use mathlib.Core.Bool.{Bool, cond}

pub chosen : {A : Type 0} {a b : Bool} (x y : A) → a ≡ b → cond a x y ≡ cond b x y
chosen {A} {a} {b} x y e = ap (λ (b : Bool). cond b x y) e
