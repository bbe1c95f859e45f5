-- `slots_of` meets its contract: each party is read from its cell.
use borrow.Author.Rules.{rules}
use Rattle.cells.proofs.Laws.Each.{from_fn-each}
use Rattle.layout.proofs.parties.slots_of.Goals as goal

pub returns : goal.returns
returns c = from_fn-each _ _ _ _ (λ i y q h m. search rules) _ c.from_fn.ensures.items
