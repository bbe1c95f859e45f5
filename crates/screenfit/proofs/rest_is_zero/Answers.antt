-- `rest_is_zero` meets its contract.
use Rattle.std.proofs.Common.{◌≡◌, ◌-◌, ◌∙◌, arith, rules, tests, eqb, drop, length, length-drop}
use Rattle.std.proofs.lemmas.List.{take_all}
use Rattle.std.proofs.lemmas.Iterator.{YieldsList-from_slice}
use Rattle.std.proofs.lemmas.Iterator.Search.{all_from_yields_List}
use Rattle.screen.proofs.Laws.Chains.{all-pass}
use Rattle.screenfit.proofs.rest_is_zero.Goals as goal

pub returns : goal.returns
returns c =
    let l = c.args.line.now in
    let sizes : length l.queue ≡ 32 = search rules in
    let tail = c.iter.ensures.rest ∙ take_all (32 - l.waiting) (drop l.waiting l.queue) (omega (arith, length-drop l.waiting l.queue)) in
    all_from_yields_List (λ b. eqb b 0) _ _ _ c.all.ensures.ran (YieldsList-from_slice (drop l.waiting l.queue) tail)
    (λ x b q k. search (rules, tests))
    ∙ all-pass _ _
