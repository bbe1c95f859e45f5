-- `in_order` meets its contract: the radios that are stored stand in order.
use borrow.Author.Rules.{rules}
use Rattle.cells.proofs.Laws.Each.{from_fn-each}
use Rattle.radiobytes.proofs.in_order.Goals as goal

pub returns : goal.returns
returns c = from_fn-each _ _ _ _ (λ i y q h m. search rules) _ c.from_fn.ensures.items
