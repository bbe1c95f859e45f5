-- "Radios by name": the store of a hub just opened.
use Rattle.std.specs.Prelude.{◌≡◌}
use Rattle.hub.specs.declared.answers.Answer.{Answer}
use Rattle.hub.specs.declared.opening.Opening.{Opening}
use Rattle.hub.specs.Opening.{opening}
use Rattle.hub.specs.Radios.{radios_of, stored_in}

-- The store is filled in the opening's order.
unfoldable pub FilledInOrder : Type 0
FilledInOrder =
    (o : Opening) → (opening o).answer ≡ Answer.Opened
    → stored_in (opening o).hub.control.pool ≡ radios_of o
