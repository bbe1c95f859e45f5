-- `fits` meets its contract: its tests are the clauses of the definition.
use borrow.Author.Rules.{rules}
use mathlib.Core.Path.{sym, ◌∙◌}
use native.Mathlib.Omega.{arith}
use Rattle.std.proofs.lemmas.Grind.{common_steps}
use Rattle.clauses.proofs.Laws.Bools.{failed}
use Rattle.latchfit.proofs.Laws.Clauses.{oldest-small, parties-few, by-tests, figures-fail}
use Rattle.latchfit.proofs.fits.Goals as goal

pub returns-then-not-figures_fit : goal.returns-then-not-figures_fit
returns-then-not-figures_fit c = figures-fail _ (failed c.figures_fit.ensures c.if-not-figures_fit.true-raw)

pub shared_ref_as_front-members_fit : goal.shared_ref_as_front-members_fit
shared_ref_as_front-members_fit c = parties-few _ _ _ (sym c.figures_fit.ensures ∙ c.if-not-figures_fit.false)

pub members_fit-requires : goal.members_fit-requires
members_fit-requires c = oldest-small _ _ _ (sym c.figures_fit.ensures ∙ c.if-not-figures_fit.false)

pub waiters_fit-requires : goal.waiters_fit-requires
waiters_fit-requires c = oldest-small _ _ _ (sym c.figures_fit.ensures ∙ c.if-not-figures_fit.false)

pub returns-then-all_free : goal.returns-then-all_free
returns-then-all_free c =
    let x = by-tests c.args.latch (search rules) (sym c.figures_fit.ensures ∙ c.if-not-figures_fit.false) in
    grind (arith, common_steps)

pub returns-else-all_free : goal.returns-else-all_free
returns-else-all_free c =
    let x = by-tests c.args.latch (search rules) (sym c.figures_fit.ensures ∙ c.if-not-figures_fit.false) in
    grind (arith, common_steps)
