-- A party that waits stands at the place of its ticket.
use Prim.Native.Nat.{ℕ, zero, suc, ◌+◌, ◌≤◌}
use mathlib.Core.Path.{◌≡◌, refl, ap, ◌∙◌}
use mathlib.Core.List.{List, [], ◌∷◌}
use mathlib.Core.Logic.{◌≢◌}
use native.Mathlib.Decide.{ℕ_discrete}
use native.Mathlib.Omega.{arith}
use lib.ListN.{get_or}
use Rattle.hub.specs.declared.record.Phase.{Phase}
use Rattle.hub.specs.declared.record.Phase.TheVariants.{Waiting}
use Rattle.hub.specs.declared.record.Place.{Place}
use Rattle.hub.specs.declared.record.Place.TheVariants as place
use Rattle.hub.specs.Basics.{weight}
use Rattle.hub.specs.Ledger.{phase_in}
use Rattle.hub.specs.Phases.{is_one_of}
use Rattle.hub.specs.Queue.{Queue, phases, places}
use Rattle.hub.proofs.Laws.Lists.{weight-one}
use Rattle.hub.proofs.Laws.Phases.{waiter_of}
use Rattle.hub.proofs.Invariant.Weights.{lt-le, most, own, pick, same_self, stand-own}
use Rattle.hub.proofs.Invariant.Tickets.{exact}
use Rattle.hub.proofs.Invariant.Keep.{Inv}

-- Two elements weigh no more than the list.
weight-two : {A : Type 0} (f : A → ℕ) (d : A) → f d ≡ 0 → (l : List A) (i j : ℕ) → i ≢ j
    → f (get_or l i d) + f (get_or l j d) ≤ weight f l
unfolding weight
weight-two f d z [] i j y = omega (arith, z)
weight-two f d z (x ∷ l) zero zero y = absurd (y refl)
weight-two f d z (x ∷ l) zero (suc j) y = omega (arith, weight-one f d z l j)
weight-two f d z (x ∷ l) (suc i) zero y = omega (arith, weight-one f d z l i)
weight-two f d z (x ∷ l) (suc i) (suc j) y = omega (arith, weight-two f d z l i j (λ e. y (ap suc e)))

-- Only a place where a party waits leaves room for one that waits.
three-waits : (a : Place) → 3 ≤ most a → a ≡ place.Waiting (waiter_of a)
three-waits place.Empty i = absurd (let y : ⊥ = omega arith in y)
three-waits (place.Waiting q) i = refl
three-waits place.Permit i = absurd (let y : ⊥ = omega arith in y)
three-waits place.Cancelled i = absurd (let y : ⊥ = omega arith in y)
three-waits place.Refused i = absurd (let y : ⊥ = omega arith in y)
three-waits place.Done i = absurd (let y : ⊥ = omega arith in y)

module _ (k : ℕ) (m : Queue) (inv : Inv k m) (q t : ℕ) (e : phase_in (phases m) q ≡ Waiting t) where
  somebody : places m t ≡ place.Waiting (waiter_of (places m t))
  unfolding pick is_one_of
  somebody =
      three-waits (places m t)
      (omega (
        arith,
        (inv.tickets.at t).high,
        exact inv.tickets q t (Waiting t) e (omega (arith, same_self t)),
        same_self t,
      ))

  -- Another would own the ticket too.
  pub waits-at : places m t ≡ place.Waiting q
  unfolding pick is_one_of
  waits-at = go (ℕ_discrete (waiter_of (places m t)) q)
    where
      go : Dec (waiter_of (places m t) ≡ q) → places m t ≡ place.Waiting q
      go (yes y) = somebody ∙ ap place.Waiting y
      go (no y) =
          let z : ⊥ = omega (
            arith,
            weight-two (own t) Phase.Free refl (phases m) (waiter_of (places m t)) q y,
            inv.tickets.named t (waiter_of (places m t)) somebody,
            stand-own t (phase_in (phases m) (waiter_of (places m t))),
            ap (own t) e,
            same_self t,
            (inv.tickets.at t).owned,
            lt-le t m.figures.issued,
          ) in absurd z
