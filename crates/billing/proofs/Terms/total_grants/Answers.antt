-- `total_grants` meets its contract: a sum of at most 32 numbers, none above 100,000,000.
use Rattle.std.proofs.Common.{take, arith, ◌∙◌}
use Rattle.std.proofs.lemmas.Iterator.{YieldsList-from_slice}
use Rattle.std.proofs.lemmas.Iterator.Consumers.{sum_from_yields_List, fits_from_yields_list}
use Rattle.billing.proofs.Laws.Shares.{total-most}
use Rattle.billing.proofs.Laws.Sums.{sum-taken}
use Rattle.billing.proofs.Terms.total_grants.Goals as goal

pub sum-requires-clause-fits : goal.sum-requires-clause-fits
sum-requires-clause-fits c =
    fits_from_yields_list c.iter.result _ (YieldsList-from_slice (take c.args.self.now.parties c.args.self.now.grants) (cc))
    (omega (arith, sum-taken c.args.self.now.grants c.args.self.now.parties (omega (arith, c.requires.parties)), total-most c.requires))

pub returns : goal.returns
returns c =
    sum_from_yields_List c.iter.result _ c.sum.ensures.ran (YieldsList-from_slice (take c.args.self.now.parties c.args.self.now.grants) (cc))
    ∙ sum-taken c.args.self.now.grants c.args.self.now.parties (omega (arith, c.requires.parties))
