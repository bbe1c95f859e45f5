-- `holders_below` meets its contract: from n on nobody holds.
use Rattle.std.proofs.Common.{◌≡◌, ◌-◌, ◌∙◌, arith, rules, tests, not, drop, length, length-drop}
use Rattle.std.proofs.lemmas.List.{take_all}
use Rattle.std.proofs.lemmas.Iterator.{YieldsList-from_slice}
use Rattle.std.proofs.lemmas.Iterator.Search.{all_from_yields_List}
use Rattle.screen.specs.Line.{holders}
use Rattle.screen.proofs.Laws.Chains.{holders-low}
use Rattle.screenfit.proofs.holders_below.Goals as goal

pub returns : goal.returns
unfolding holders
returns c =
    let l = c.args.line.now in
    let sizes : length l.holding ≡ 32 = search rules in
    let tail = c.iter.ensures.rest ∙ take_all (32 - l.parties) (drop l.parties l.holding) (omega (arith, length-drop l.parties l.holding)) in
    all_from_yields_List not _ _ _ c.all.ensures.ran (YieldsList-from_slice (drop l.parties l.holding) tail)
    (λ x b q k. search (rules, tests))
    ∙ holders-low l.parties l.holding
