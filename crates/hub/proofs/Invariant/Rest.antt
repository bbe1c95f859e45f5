-- Everybody at rest, or about to fetch a radio: whoever owns a ticket waits with it, no standing ticket
-- was drawn to resume, and no permit lies at a place. All of it follows from the tickets' part of the
-- invariant.
use Prim.Native.Nat.{ℕ, ◌+◌, ◌*◌, ◌≤◌, ◌<◌}
use mathlib.Core.Path.{◌≡◌, refl, sym, ap, ◌∙◌}
use mathlib.Core.Bool.{Bool, true, false, cond, not, ◌&&◌, ◌||◌}
use mathlib.Core.List.{List, [], ◌∷◌, map}
use native.Mathlib.Decide.{dec_le}
use native.Mathlib.Omega.{arith}
use borrow.Author.Tests.{eqb-true}
use lib.Dec.{eqb}
use Rattle.hub.specs.declared.record.Phase.{Phase}
use Rattle.hub.specs.declared.record.Phase.TheVariants.{Free, Waiting, Suspending}
use Rattle.hub.specs.declared.record.Phase.TheVariants.{ResumingAt, Fetching, SuspendingMarked}
use Rattle.hub.specs.declared.record.Place.{Place}
use Rattle.hub.specs.declared.record.Place.TheVariants.{Permit}
use Rattle.hub.specs.Basics.{among, bit, weight}
use Rattle.hub.specs.Ledger.{phase_in}
use Rattle.hub.specs.Phases.{RESTING, is_one_of, is_permit, is_place_of, rank, ticket_of, at_rest}
use Rattle.hub.proofs.Laws.Lists.{weight-scale}
use Rattle.hub.proofs.Laws.Phases.{every-phase, every-place, place_of}
use Rattle.hub.proofs.Laws.Ranges.{sum-zero}
use Rattle.hub.proofs.Invariant.Weights.{same, same_self, same-le, lt_yes, in-longer}
use Rattle.hub.proofs.Invariant.Weights.{one, pick, suspending, own}
use Rattle.hub.proofs.Invariant.Weights.{stage, permit_cell, spent, served, most, total, TICKETS}
use Rattle.hub.proofs.Invariant.Tickets.{Tickets, one_in, permit-below, resumed-most}

abbrev pub quiet : List Phase
quiet = Fetching ∷ RESTING

abbrev pub settled : Phase → Bool
settled = is_one_of quiet

abbrev pub Settled : List Phase → Type 0
Settled l = (p : ℕ) → settled (phase_in l p) ≡ true

pub rest-settled : (f : Phase) → at_rest f ≡ true → settled f ≡ true
unfolding is_one_of
rest-settled f e = in-longer RESTING quiet (rank f) refl e

-- A phase of one list is in no other that has none of its phases.
abbrev apart : List Phase → List Phase → Bool
apart [] l = true
apart (x ∷ xs) l = not (among (map rank l) (rank x)) && apart xs l

not-both : (xs l : List Phase) (r : ℕ) → apart xs l ≡ true
    → among (map rank xs) r ≡ true → among (map rank l) r ≡ true → ⊥
not-both [] l r e i j = let z : ◌≡◌ {A = ℕ} 0 1 = cc in omega arith
not-both (x ∷ xs) l r e i j =
    go (eqb r (rank x)) refl (among (map rank l) (rank x)) refl e i (not-both xs l r)
  where
    go : (b : Bool) → eqb r (rank x) ≡ b → (d : Bool) → among (map rank l) (rank x) ≡ d
        → not d && apart xs l ≡ true → b || among (map rank xs) r ≡ true
        → (apart xs l ≡ true → among (map rank xs) r ≡ true → among (map rank l) r ≡ true → ⊥) → ⊥
    go b z true y w v ih = let n : ◌≡◌ {A = ℕ} 0 1 = cc in omega arith
    go true z false y w v ih =
        let a : true ≡ false = sym j ∙ ap (among (map rank l)) (eqb-true r (rank x) z) ∙ y in
        let n : ◌≡◌ {A = ℕ} 0 1 = cc in omega arith
    go false z false y w v ih = ih w v j

module _ {l : List Phase} {g : ℕ → Place} {n i r b q e : ℕ} (inv : Tickets l g n i r b q e)
    (rest : Settled l) where
  -- A weight on other phases alone is nothing.
  pub idle : (xs : List Phase) (w : ℕ → ℕ) → apart xs quiet ≡ true
      → weight (pick xs w) l ≡ 0
  unfolding pick is_one_of
  idle xs w a =
      omega (
        arith,
        weight-scale 1 0 (pick xs w) (pick xs w) Free l (λ j h. omega (arith, each j)),
      )
    where
      each : (j : ℕ) → cond (among (map rank xs) (rank (phase_in l j)))
          (w (ticket_of (phase_in l j))) 0 ≤ 0
      each j = go _ refl
        where
          go : (c : Bool) → among (map rank xs) (rank (phase_in l j)) ≡ c
              → cond c (w (ticket_of (phase_in l j))) 0 ≤ 0
          go true z = absurd (not-both xs _ (rank (phase_in l j)) a z (rest j))
          go false z = omega arith

  -- Whoever owns a ticket waits with it.
  waiting-all : (t : ℕ) → 3 * weight (own t) l ≤ weight (stage t) l
  unfolding pick is_one_of
  waiting-all t =
      omega (
        arith,
        weight-scale 3 1 (own t) (stage t) Free l
            (λ j h. omega (arith, each (phase_in l j), ap (λ c. bit (not c)) (rest j))),
      )
    where
      each : (f : Phase) → 3 * own t f ≤ stage t f + 3 * bit (not (settled f))
      each =
          every-phase (λ f. 3 * own t f ≤ stage t f + 3 * bit (not (settled f)))
          (λ u. omega (arith, same-le u t))

  -- A ticket that stands has not been drawn to resume: nobody hands it, and it is not served.
  pub standing : (p t : ℕ) → phase_in l p ≡ Waiting t → r ≤ t
  unfolding pick is_one_of is_place_of
  standing p t h = go (dec_le r t)
    where
      unserved : (a : Place) → served a + most a ≤ 3
      unserved = every-place (λ a. served a + most a ≤ 3) (λ j. omega arith)

      owner : 1 ≤ weight (own t) l
      owner = omega (arith, one_in inv (own t) p (Waiting t) refl h, same_self t)

      go : Dec (r ≤ t) → r ≤ t
      go (yes k) = k
      go (no k) =
          omega (
            arith,
            owner,
            waiting-all t,
            (inv.at t).handed,
            (inv.at t).high,
            lt_yes t r (omega arith),
            idle (ResumingAt 0 ∷ []) (λ u. same u t) refl,
            unserved (g t),
          )

  -- No permit lies at a place: its owner would wait there, and the cell does not allow it.
  pub no-permits : total permit_cell g ≡ 0
  unfolding is_place_of
  no-permits = sum-zero (λ t. permit_cell (g t)) 0 TICKETS (λ t a k. each t (is_permit (g t)) refl)
    where
      none : weight suspending l ≡ 0
      none = idle (Suspending ∷ SuspendingMarked ∷ []) one refl

      each : (t : ℕ) (c : Bool) → is_permit (g t) ≡ c → bit c ≡ 0
      each t false z = refl
      each t true z =
          let h : g t ≡ Permit = place_of Permit (g t) z in
          let k : t < i = omega (arith, permit-below inv t h, resumed-most inv, none) in
          let y : ⊥ =
          omega (
            arith,
            waiting-all t,
            (inv.at t).owned,
            (inv.at t).high,
            ap spent h,
            ap most h,
            lt_yes t i k,
          ) in
          absurd y
