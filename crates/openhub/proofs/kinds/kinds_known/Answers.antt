-- `kinds_known` meets its contract: the fold asks what the definition asks.
use Rattle.std.proofs.Common.{leb, rules, tests, true, ◌&&◌, ◌∙◌}
use Rattle.std.proofs.lemmas.Iterator.{YieldsList-from_slice}
use Rattle.std.proofs.lemmas.Iterator.Consumers.{fold_from_yields_List}
use Rattle.hub.specs.Kinds.{kinds_known}
use Rattle.hub.proofs.Laws.Kinds.{all_asked}
use Rattle.openhub.proofs.kinds.kinds_known.Goals as goal

pub returns : goal.returns
unfolding kinds_known
returns c =
    fold_from_yields_List _ (λ b k. b && leb k 3) _ _ c.fold.ensures.ran (YieldsList-from_slice c.args.kinds cc)
    (λ a x b q k. search (rules, tests))
    ∙ all_asked (λ k. leb k 3) true c.args.kinds
