-- The store of a hub just opened is the ring from its first place on, which is the opening's list.
use mathlib.Core.Path.{◌≡◌, ap, ◌∙◌}
use Prim.Native.Nat.{◌≤◌}
use native.Mathlib.Omega.{arith}
use Rattle.hub.specs.declared.opening.Opening.{Opening}
use Rattle.hub.specs.declared.record.Hub.{Hub}
use Rattle.hub.specs.Opening.{fresh}
use Rattle.hub.specs.Radios.{STORE, padded, radios_of, stored_in}
use Rattle.hub.proofs.Demand3.{in-range}
use Rattle.hub.proofs.Laws.Radios.{padded-length}
use Rattle.hub.proofs.Radios.Store.{ring-take}
use Rattle.claims.specs.FilledInOrder.{FilledInOrder}

in-order : (o : Opening) → o.permits ≤ STORE → stored_in (fresh o).control.pool ≡ radios_of o
unfolding fresh radios_of
in-order o few = ring-take (padded o.radios) 0 o.permits (padded-length o.radios) (omega arith)

pub filled-in-order : FilledInOrder
unfolding FilledInOrder
filled-in-order o e =
    let r = in-range o e in
    ap (λ (h : Hub). stored_in h.control.pool) r.hub ∙ in-order o r.permits.1
