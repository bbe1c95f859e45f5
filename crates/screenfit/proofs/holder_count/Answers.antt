-- `holder_count` meets its contract: each turn counts one, and after the last all are counted.
use Prim.Native.Nat.{ℕ, ◌+◌, ◌≤◌, ◌<◌}
use mathlib.Core.Bool.{Bool, true, false}
use mathlib.Core.List.{List}
use mathlib.Core.Path.{◌≡◌, refl, ap, ◌∙◌}
use native.Mathlib.Omega.{arith}
use mir.Val.{bool_byte}
use lib.ListN.{length, get_or, take}
use lib.Seq.{take_all}
use Rattle.std.proofs.Common.{rules}
use Rattle.std.specs.List.{count_by}
use Rattle.std.proofs.lemmas.List.Sums.{count_by_more_no, count_by_more_yes}
use Rattle.screen.specs.Line.{holders}
use Rattle.screen.proofs.Laws.Chains.{held-count}
use Rattle.screenfit.proofs.holder_count.Goals as goal

few : (b : Bool) → bool_byte b ≤ 1
few true = omega arith
few false = omega arith

more : (xs : List Bool) (i n r : ℕ) (b : Bool) → i < length xs → n ≡ count_by (λ (h : Bool). h) (take i xs)
    → get_or xs i false ≡ b → r ≡ bool_byte b → n + r ≡ count_by (λ (h : Bool). h) (take (i + 1) xs)
more xs i n r true l e at is =
    let one : r ≡ 1 = is in omega (arith, e, one, count_by_more_yes (λ (h : Bool). h) xs i false l at)
more xs i n r false l e at is =
    let none : r ≡ 0 = is in omega (arith, e, none, count_by_more_no (λ (h : Bool). h) xs i false l at)

pub loop-holds-preserved : goal.loop-holds-preserved
loop-holds-preserved c =
    let size : length c.args.line.now.holding ≡ 32 = search rules in (
      omega (arith, c.loop-holds.invariant.0, c.from-n.ensures, few (get_or c.args.line.now.holding c.loop-holds.holds-index false)),
      more c.args.line.now.holding _ _ _ _ (omega (arith, size, c.loop-holds-test.true)) c.loop-holds.invariant.1 refl c.from-n.ensures,
    )

pub returns : goal.returns
unfolding holders
returns c =
    let size : length c.args.line.now.holding ≡ 32 = search rules in
    c.loop-holds.invariant.1
    ∙ ap (count_by (λ (b : Bool). b)) (take_all _ c.args.line.now.holding (omega (arith, size, c.loop-holds-test.false)))
    ∙ held-count _ 0
