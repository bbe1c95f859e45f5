-- `fits` meets its contract: its tests are the clauses of the definition.
use borrow.Author.Rules.{rules}
use mathlib.Core.Path.{sym, ◌∙◌}
use borrow.Author.Tests.{not-true}
use native.Mathlib.Omega.{arith}
use Rattle.std.proofs.lemmas.Grind.{common_steps}
use Rattle.hub.specs.Fits.{kinds_fit}
use Rattle.hub.proofs.Laws.Bools.{first}
use Rattle.pool.proofs.Laws.Fits.{unnamed-fit}
use Rattle.clauses.proofs.Laws.Bools.{failed}
use Rattle.fit.proofs.Laws.Clauses.{oldest-small, parties-few, permits-few, by-tests, outline-fails}
use Rattle.fit.proofs.fits.Goals as goal

pub returns-then-not-figures_and_kinds_fit : goal.returns-then-not-figures_and_kinds_fit
returns-then-not-figures_and_kinds_fit c =
    outline-fails _ (failed c.figures_and_kinds_fit.ensures c.if-not-figures_and_kinds_fit.true-raw)

pub shared_ref_as_front-members_fit : goal.shared_ref_as_front-members_fit
shared_ref_as_front-members_fit c =
    parties-few _ _ _ (first _ (kinds_fit c.args.hub.control.opening) (sym c.figures_and_kinds_fit.ensures ∙ c.if-not-figures_and_kinds_fit.false))

pub members_fit-requires : goal.members_fit-requires
members_fit-requires c =
    oldest-small _ _ _ (first _ (kinds_fit c.args.hub.control.opening) (sym c.figures_and_kinds_fit.ensures ∙ c.if-not-figures_and_kinds_fit.false))

pub waiters_fit-requires : goal.waiters_fit-requires
waiters_fit-requires c =
    oldest-small _ _ _ (first _ (kinds_fit c.args.hub.control.opening) (sym c.figures_and_kinds_fit.ensures ∙ c.if-not-figures_and_kinds_fit.false))

pub radios_fit-requires : goal.radios_fit-requires
radios_fit-requires c =
    permits-few _ _ _ (first _ (kinds_fit c.args.hub.control.opening) (sym c.figures_and_kinds_fit.ensures ∙ c.if-not-figures_and_kinds_fit.false))

pub returns-else-not-opening : goal.returns-else-not-opening
returns-else-not-opening c =
    let x = by-tests c.args.hub (search rules) (sym c.figures_and_kinds_fit.ensures ∙ c.if-not-figures_and_kinds_fit.false) in
    grind (arith, common_steps)

pub returns-else-waiters_fit : goal.returns-else-waiters_fit
returns-else-waiters_fit c =
    let x = by-tests c.args.hub (search rules) (sym c.figures_and_kinds_fit.ensures ∙ c.if-not-figures_and_kinds_fit.false) in
    grind (arith, common_steps)

pub returns-then-not-opening : goal.returns-then-not-opening
returns-then-not-opening c =
    let x = by-tests c.args.hub (search rules) (sym c.figures_and_kinds_fit.ensures ∙ c.if-not-figures_and_kinds_fit.false) in
    let y = unnamed-fit c.args.hub (not-true _ c.if-not-opening.true) in
    grind (arith, common_steps)
