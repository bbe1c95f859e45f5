-- `places_at` meets its contract: each place is read from its cell.
use borrow.Author.Rules.{rules}
use Rattle.cells.proofs.Laws.Each.{from_fn-each}
use Rattle.cells.proofs.cell.places_at.Goals as goal

pub returns : goal.returns
returns c = from_fn-each _ _ _ _ (λ i y q h m. search rules) _ c.from_fn.ensures.items
