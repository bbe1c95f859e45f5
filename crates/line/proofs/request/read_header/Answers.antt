-- `read_header` meets its contract: four characters may be a call, and all others an opening.
use borrow.Author.Tests.{not-true}
use mathlib.Core.Path.{sym, ◌∙◌}
use Rattle.line.proofs.Laws.Lines.{not-four}
use Rattle.line.proofs.request.read_header.Goals as goal

pub returns-then-not-is_opening : goal.returns-then-not-is_opening
returns-then-not-is_opening c =
    let o = c in
    c.malformed.ensures
    ∙ not-four _ o.if-line-eq4.false
    (sym o.is_opening.ensures ∙ not-true _ c.if-not-is_opening.true-raw)
