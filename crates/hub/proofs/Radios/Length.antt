-- The radios of a record are as many as its opening's: the count of those that have one is K.
use Prim.Native.Nat.{ℕ, ◌≤◌}
use mathlib.Core.Path.{◌≡◌, refl}
use mathlib.Core.List.{List, [], ◌∷◌}
use native.Mathlib.Omega.{arith}
use lib.ListN.{length}
use lib.Seq.{length-take-le}
use Rattle.hub.specs.declared.opening.Opening.{Opening}
use Rattle.hub.specs.declared.record.Hub.{Hub}
use Rattle.hub.specs.Basics.{weight}
use Rattle.hub.specs.Radios.{STORE, radios_in, radios_of, padded}
use Rattle.hub.proofs.Laws.Radios.{padded-length}
use Rattle.hub.proofs.Radios.Ways.{one, radios-count, radios-weigh}
use Rattle.hub.proofs.Radios.Kept.{Kept}

each-one : (l : List ℕ) → weight one l ≡ length l
unfolding weight
each-one [] = refl
each-one (x ∷ l) = omega (arith, each-one l)

pub radios-length : (o : Opening) → o.permits ≤ STORE → length (radios_of o) ≡ o.permits
unfolding radios_of
radios-length o i = length-take-le o.permits (padded o.radios) (omega (arith, padded-length o.radios))

pub kept-length : (h : Hub) → Kept h
    → length (radios_in h.slots h.places h.control.pool) ≡ length (radios_of h.control.opening)
kept-length h k =
    omega (
      arith,
      each-one (radios_in h.slots h.places h.control.pool),
      radios-weigh one h.slots h.places h.control.pool,
      radios-count h.slots h.places h.control.pool (omega (arith, k.slots, k.hands))
          (omega (arith, k.places, k.laid)),
      k.counted,
      radios-length h.control.opening k.few,
    )
