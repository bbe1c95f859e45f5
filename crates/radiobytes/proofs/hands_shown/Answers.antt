-- `hands_shown` meets its contract: each radio is shown where its party has one.
use borrow.Author.Rules.{rules}
use Rattle.cells.proofs.Laws.Each.{from_fn-each}
use Rattle.radiobytes.proofs.hands_shown.Goals as goal

pub returns : goal.returns
returns c = from_fn-each _ _ _ _ (λ i y q h m. search rules) _ c.from_fn.ensures.items
