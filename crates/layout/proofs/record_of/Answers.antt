-- `record_of` meets its contract: each part is read where it stands.
use Rattle.hub.specs.Record.{control_of, of_fields}
use Rattle.layout.proofs.record_of.Goals as goal

pub returns : goal.returns
returns c =
    λ j.
    of_fields (c.places_at.ensures j) (c.slots_of.ensures j)
    (control_of (c.opening_of.ensures j)
    (c.figures_of.ensures j) (c.number_at.ensures j)
    (c.pool_of.ensures j))
