-- `count_ended` meets its contract: each turn counts one, and after the last all are counted.
use Prim.Native.Nat.{ℕ, ◌+◌, ◌≤◌, ◌<◌}
use mathlib.Core.Bool.{Bool, true, false}
use mathlib.Core.List.{List}
use mathlib.Core.Path.{◌≡◌, refl, ap, ◌∙◌}
use native.Mathlib.Omega.{arith}
use mir.Val.{bool_byte}
use lib.Dec.{eqb}
use lib.ListN.{length, get_or, take}
use lib.Seq.{take_all}
use Rattle.std.specs.List.{count_by}
use Rattle.std.proofs.lemmas.List.Sums.{count_by_more_no, count_by_more_yes}
use Rattle.wholeinput.proofs.whole.count_ended.Goals as goal

few : (b : Bool) → bool_byte b ≤ 1
few true = omega arith
few false = omega arith

more : (xs : List ℕ) (i n r : ℕ) (b : Bool) → i < length xs → n ≡ count_by (λ c. eqb c 0x0A) (take i xs)
    → eqb (get_or xs i 0) 0x0A ≡ b → r ≡ bool_byte b → n + r ≡ count_by (λ c. eqb c 0x0A) (take (i + 1) xs)
more xs i n r true l e at is =
    let one : r ≡ 1 = is in omega (arith, e, one, count_by_more_yes (λ c. eqb c 0x0A) xs i 0 l at)
more xs i n r false l e at is =
    let none : r ≡ 0 = is in omega (arith, e, none, count_by_more_no (λ c. eqb c 0x0A) xs i 0 l at)

pub loop-c-preserved : goal.loop-c-preserved
loop-c-preserved c = (
  omega (arith, c.loop-c.invariant.0, c.from-n.ensures, few (eqb (get_or c.args.input.now c.loop-c.c-index 0) 0x0A)),
  more c.args.input.now _ _ _ _ c.loop-c-test.true c.loop-c.invariant.1 refl c.from-n.ensures,
)

pub returns : goal.returns
returns c =
    c.loop-c.invariant.1
    ∙ ap (count_by (λ c. eqb c 0x0A)) (take_all _ c.args.input.now c.loop-c-test.false)
