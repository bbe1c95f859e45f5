-- Who waits on a hub at rest.
use Prim.Native.Nat.{ℕ, zero, suc, ◌+◌, ◌≤◌, ◌<◌}
use mathlib.Core.Path.{◌≡◌, refl, sym, ap, ◌∙◌}
use mathlib.Core.Bool.{Bool, true, false, ◌&&◌}
use mathlib.Core.Logic.{◌⊎◌, inl, inr}
use native.Mathlib.Decide.{dec_le}
use native.Mathlib.Omega.{arith}
use borrow.Author.Tests.{le-ltb, lt-ltb, ltb-true}
use lib.Dec.{ltb}
use lib.ListN.{length}
use Rattle.hub.specs.declared.record.Hub.{Hub}
use Rattle.hub.specs.declared.record.Phase.{Phase}
use Rattle.hub.specs.declared.record.Place.{Place}
use Rattle.hub.specs.Basics.{bit, count}
use Rattle.hub.specs.Ledger.{phase_in}
use Rattle.hub.specs.Phases.{is_cancelled, is_holding, is_one_of, is_place_of, is_waiting}
use Rattle.hub.specs.Record.{phases_of, read_slot}
use Rattle.hub.specs.Ring.{PLACES, read_place}
use Rattle.hub.specs.Table.{above_zero, below_zero}
use Rattle.hub.proofs.Laws.Lists.{weight-one}
use Rattle.hub.proofs.Laws.Phases.{one_of}
use Rattle.hub.proofs.Laws.Slots.{read-phase}
use Rattle.operations.proofs.Reached.{weight-some}
use Rattle.operations.proofs.Rest.{AtRest, above_zero_lem, below-zero}

true-bit : (b : Bool) → 1 ≤ bit b → b ≡ true
true-bit true i = refl
true-bit false i = let z : ⊥ = omega arith in absurd z

module _ (h : Hub) (a : AtRest h) where
  -- Is a permit at the counter: do fewer than K hold?
  pub permit-left : above_zero h.control.figures.counter
      ≡ ltb (count is_holding (phases_of h.slots)) h.control.opening.permits
  permit-left = above_zero_lem h.control.figures.counter ∙ more _ _ _ a.holders
    where
      more : (m n k : ℕ) → m + n ≡ k → ltb 0 n ≡ ltb m k
      more m zero k e = sym (le-ltb m k (omega arith))
      more m (suc n) k e = lt-ltb 0 (suc n) (omega arith) ∙ sym (lt-ltb m k (omega arith))

  -- Is it below zero: does somebody wait?
  pub somebody-waits : below_zero h.control.figures.counter ≡ ltb 0 (count is_waiting (phases_of h.slots))
  somebody-waits = below-zero h.control.figures.counter ∙ ap (ltb 0) (sym a.waiters)

  -- The next ticket to resume is not cancelled.
  pub not-cancelled : is_cancelled (read_place h.places h.control.figures.resumed) ≡ false
  not-cancelled =
      left (ltb h.control.figures.resumed (h.control.oldest + PLACES)) _
      (lt-ltb h.control.figures.resumed (h.control.oldest + PLACES) (omega (arith, a.oldest))) a.unskipped
    where
      left : (b d : Bool) → b ≡ true → b && d ≡ false → d ≡ false
      left true d i j = j
      left false d i j = let z : ◌≡◌ {A = ℕ} 0 1 = cc in let w : ⊥ = omega arith in absurd w

  -- Whoever waits is one of them.
  pub waiting-below : (p t : ℕ) → (read_slot h.slots p).phase ≡ Phase.Waiting t
      → below_zero h.control.figures.counter ≡ true
  unfolding is_one_of
  waiting-below p t e =
      somebody-waits
      ∙ lt-ltb 0 (count is_waiting (phases_of h.slots))
      (omega (
        arith,
        weight-one (λ f. bit (is_waiting f)) Phase.Free refl (phases_of h.slots) p,
        ap (λ (f : Phase). bit (is_waiting f)) (sym (read-phase h.slots p) ∙ e),
      ))

  -- Below zero the next ticket to resume is waited with.
  pub next-waits : below_zero h.control.figures.counter ≡ true
      → (q : ℕ) × ((read_slot h.slots q).phase ≡ Phase.Waiting h.control.figures.resumed)
  unfolding is_place_of
  next-waits e = go (a.line h.control.figures.resumed (omega arith) below)
    where
      somebody : (p : ℕ) × (1 ≤ bit (is_waiting (phase_in (phases_of h.slots) p)))
      somebody =
          weight-some (λ f. bit (is_waiting f)) Phase.Free (phases_of h.slots)
          (ltb-true 0 (count is_waiting (phases_of h.slots)) (sym somebody-waits ∙ e))

      waits : is_waiting (phase_in (phases_of h.slots) somebody.0) ≡ true
      waits = true-bit _ somebody.1

      below : h.control.figures.resumed < h.control.figures.issued
      below =
          let w = a.waits somebody.0 _
          (read-phase h.slots somebody.0 ∙ one_of (Phase.Waiting 0) _ waits) in
          omega (arith, w.1, w.2)

      skips : read_place h.places h.control.figures.resumed ≡ Place.Cancelled → ⊥
      skips z =
          let i : true ≡ false = sym (ap is_cancelled z) ∙ not-cancelled in
          let y : ◌≡◌ {A = ℕ} 0 1 = cc in omega arith

      go : (read_place h.places h.control.figures.resumed ≡ Place.Cancelled)
          ⊎ ((p : ℕ) × ((read_slot h.slots p).phase ≡ Phase.Waiting h.control.figures.resumed))
          → (q : ℕ) × ((read_slot h.slots q).phase ≡ Phase.Waiting h.control.figures.resumed)
      go (inl z) = absurd (skips z)
      go (inr q) = q

  -- Whoever waits has a slot.
  pub waiter-inside : (q t : ℕ) → (read_slot h.slots q).phase ≡ Phase.Waiting t → q < length h.slots
  waiter-inside q t e = go (dec_le h.control.opening.parties q)
    where
      go : Dec (h.control.opening.parties ≤ q) → q < length h.slots
      go (yes i) =
          let z : Phase.Free ≡ Phase.Waiting t = sym (a.beyond q i) ∙ e in
          let y : ◌≡◌ {A = ℕ} 0 1 = cc in let w : ⊥ = omega arith in absurd w
      go (no i) = omega (arith, a.slots, a.few)
