-- What the invariant gives of the permits: never more than K hold, and exactly K at rest while
-- somebody waits.
use Prim.Native.Nat.{ℕ, zero, suc, ◌+◌, ◌-◌, ◌≤◌, ◌<◌}
use mathlib.Core.Path.{◌≡◌, refl, ap}
use mathlib.Core.Bool.{Bool, true, false, cond}
use mathlib.Core.List.{List, [], ◌∷◌}
use mathlib.Core.Logic.{◌⊎◌, inl, inr}
use native.Mathlib.Decide.{ℕ_discrete, dec_le}
use native.Mathlib.Omega.{arith}
use lib.IntN.{ℤ, pos, negsuc}
use Rattle.hub.specs.declared.record.Phase.{Phase}
use Rattle.hub.specs.declared.record.Phase.TheVariants.{Free, Waiting, Ticketed, Aborting}
use Rattle.hub.specs.declared.record.Phase.TheVariants.{Cancelling, Refusing, Resuming}
use Rattle.hub.specs.declared.record.Phase.TheVariants.{ResumingAt, TicketedMarked}
use Rattle.hub.specs.declared.record.Place.{Place}
use Rattle.hub.specs.Ledger.{phase_in}
use Rattle.hub.specs.Phases.{is_one_of, ticket_of}
use Rattle.hub.specs.Queue.{Queue, phases, places}
use Rattle.hub.proofs.Laws.Lists.{weight-le, weight-add}
use Rattle.hub.proofs.Laws.Phases.{every-phase}
use Rattle.hub.proofs.Laws.Ranges.{sum_from, sum-le, sum-zero, sum_ones, sum-add, sum-split}
use Rattle.hub.proofs.Laws.Ranges.{sum-weight, some_or_none}
use Rattle.hub.proofs.Invariant.Weights.{same, same-other, same-le, lt_yes, lt_no, up, down}
use Rattle.hub.proofs.Invariant.Weights.{one, pick, holding, resuming, refusing, suspending}
use Rattle.hub.proofs.Invariant.Weights.{live, handing, cancelling, own, refuse, above}
use Rattle.hub.proofs.Invariant.Weights.{above-live, permit_cell, cancelled_cell, refused_cell}
use Rattle.hub.proofs.Invariant.Weights.{sum, cell_sum, TICKETS, handing-resuming}
use Rattle.hub.proofs.Invariant.Tickets.{one_in, near}
use Rattle.hub.proofs.Invariant.Keep.{Inv, permits}
use Rattle.hub.proofs.Invariant.Rest.{Settled, idle, no-permits}

-- One ticket is once in a row of tickets, so a party is counted at most once over all of them.
same_once : (u o j : ℕ) → sum_from (same u) o j ≤ 1
unfolding sum_from
same_once u o zero = omega arith
same_once u o (suc j) = go (ℕ_discrete u o) (same_once u (suc o) j)
  where
    go : Dec (u ≡ o) → sum_from (same u) (suc o) j ≤ 1
        → same u o + sum_from (same u) (suc o) j ≤ 1
    go (yes z) ih =
        omega (
          arith,
          same-le u o,
          sum-zero (same u) (suc o) j (λ t a b. same-other u t (omega arith)),
        )
    go (no z) ih = omega (arith, same-other u o z)

pick-once : (l : List Phase) (o j : ℕ) (f : Phase)
    → sum_from (λ t. pick l (λ u. same u t) f) o j ≤ pick l one f
unfolding pick
pick-once l o j f = go (is_one_of l f)
  where
    go : (b : Bool) → sum_from (λ t. cond b (same (ticket_of f) t) 0) o j ≤ cond b 1 0
    go true = same_once (ticket_of f) o j
    go false = omega (arith, sum-zero (λ t. 0) o j (λ t a b. refl))

-- The owner of t is live with it, or has it skipped, or refuses it.
abbrev live_at : ℕ → Phase → ℕ
live_at t = pick (Ticketed 0 ∷ TicketedMarked 0 ∷ Waiting 0 ∷ Aborting 0 ∷ []) (λ u. same u t)

abbrev cancel_at : ℕ → Phase → ℕ
cancel_at t = pick (Cancelling 0 ∷ []) (λ u. same u t)

own-parts : (t : ℕ) (f : Phase) → own t f ≤ live_at t f + cancel_at t f + refuse t f
unfolding pick is_one_of
own-parts t =
    every-phase (λ f. own t f ≤ live_at t f + cancel_at t f + refuse t f) (λ u. omega arith)

module _ (k : ℕ) (m : Queue) (inv : Inv k m) where
  -- A row of cells is within all of them.
  part : (w : Place → ℕ) (o j : ℕ) → o + j ≤ TICKETS
      → sum_from (λ t. w (places m t)) o j ≤ cell_sum w m
  part w o j i =
      omega (
        arith,
        sum-split g 0 o (TICKETS - o) TICKETS (omega arith),
        sum-split g (0 + o) j (TICKETS - (o + j)) (TICKETS - o) (omega arith),
        ap (λ (n : ℕ). sum_from g n j) (start o),
      )
    where
      g : ℕ → ℕ
      g t = w (places m t)

      start : (o : ℕ) → 0 + o ≡ o
      start o = omega arith

  -- Sums over a row of tickets of what one party may have of each.
  row_of : (l : List Phase) (o j : ℕ)
      → sum_from (λ t. sum (pick l (λ u. same u t)) m) o j ≤ sum (pick l one) m
  row_of l o j =
      omega (
        arith,
        sum-weight (λ t. pick l (λ u. same u t)) o j (phases m),
        weight-le (λ f. sum_from (λ t. pick l (λ u. same u t) f) o j) (pick l one) Free (phases m)
            (λ i b. pick-once l o j (phase_in (phases m) i)),
      )

  -- If nobody refuses from the next ticket to resume on, then each of those tickets has a live
  -- owner, or is being skipped, or its cell is cancelled.
  unrefused : (j : ℕ) → m.figures.resumed + j ≡ m.figures.issued
      → ((t : ℕ) → m.figures.resumed ≤ t → t < m.figures.resumed + j
      → sum (refuse t) m + refused_cell (places m t) ≡ 0)
      → j ≤ sum live m + sum cancelling m + cell_sum cancelled_cell m
  unrefused j e z =
      omega (
        arith,
        sum_ones m.figures.resumed j,
        sum-le (λ t. 1) (λ t. sum (live_at t) m + sum (cancel_at t) m + cancelled_cell (places m t))
            m.figures.resumed j each,
        sum-add (λ t. sum (live_at t) m + sum (cancel_at t) m) (λ t. cancelled_cell (places m t))
            m.figures.resumed j,
        sum-add (λ t. sum (live_at t) m) (λ t. sum (cancel_at t) m) m.figures.resumed j,
        row_of (Ticketed 0 ∷ TicketedMarked 0 ∷ Waiting 0 ∷ Aborting 0 ∷ []) m.figures.resumed j,
        row_of (Cancelling 0 ∷ []) m.figures.resumed j,
        part cancelled_cell m.figures.resumed j (omega (arith, near inv.tickets)),
      )
    where
      owners : (t : ℕ) → sum (own t) m ≤ sum (live_at t) m + sum (cancel_at t) m + sum (refuse t) m
      owners t =
          omega (
            arith,
            weight-le (own t) (λ f. live_at t f + cancel_at t f + refuse t f) Free (phases m)
                (λ i b. own-parts t (phase_in (phases m) i)),
            weight-add (λ f. live_at t f + cancel_at t f) (refuse t) (phases m),
            weight-add (live_at t) (cancel_at t) (phases m),
          )

      each : (t : ℕ) → m.figures.resumed ≤ t → t < m.figures.resumed + j
          → 1 ≤ sum (live_at t) m + sum (cancel_at t) m + cancelled_cell (places m t)
      each t a b =
          omega (
            arith,
            (inv.tickets.at t).owned,
            lt_yes t m.figures.issued (omega arith),
            z t a b,
            owners t,
            (inv.tickets.at t).handed,
            lt_no t m.figures.resumed a,
          )

  handing-most : sum handing m ≤ sum resuming m
  handing-most =
      weight-le handing resuming Free (phases m) (λ i b. handing-resuming (phase_in (phases m) i))

  -- The counter is never below zero by more than the waits.
  pub short : down m.figures.counter ≤ sum suspending m + sum live m
  short = go (dec_le m.figures.resumed m.figures.issued)
    where
      by : (j : ℕ) → m.figures.resumed + j ≡ m.figures.issued
          → ((t : ℕ) × (m.figures.resumed ≤ t) × (1 ≤ sum (refuse t) m + refused_cell (places m t)))
          ⊎ ((t : ℕ) → m.figures.resumed ≤ t → t < m.figures.resumed + j
          → sum (refuse t) m + refused_cell (places m t) ≡ 0)
          → down m.figures.counter ≤ sum suspending m + sum live m
      by j e (inl r) =
          omega (
            arith,
            inv.order r.0 r.1 r.2,
            weight-le (above r.0) live Free (phases m)
                (λ i b. above-live r.0 (phase_in (phases m) i)),
          )
      by j e (inr r) = omega (arith, inv.tickets.line, unrefused j e r, handing-most)

      go : Dec (m.figures.resumed ≤ m.figures.issued) → down m.figures.counter ≤ sum suspending m + sum live m
      go (yes i) =
          by (m.figures.issued - m.figures.resumed) (omega arith)
          (some_or_none (λ t. sum (refuse t) m + refused_cell (places m t)) m.figures.resumed
          (m.figures.issued - m.figures.resumed))
      go (no i) = omega (arith, inv.tickets.line, handing-most)

  -- Never more than k hold.
  pub held-most : sum holding m ≤ k
  held-most = omega (arith, short, inv.owing)

  -- What is on the way is never less than nothing.
  pub way-whole : sum refusing m + cell_sum refused_cell m ≤ sum resuming m + cell_sum permit_cell m
  way-whole = go m.figures.counter refl
    where
      go : (c : ℤ) → m.figures.counter ≡ c
          → sum refusing m + cell_sum refused_cell m ≤ sum resuming m + cell_sum permit_cell m
      go (pos n) e = omega (arith, inv.owing, permits k m inv, ap up e, ap down e)
      go (negsuc n) e = omega (arith, held-most, permits k m inv, ap up e)

-- Everybody at rest, or about to fetch a radio.
module _ (k : ℕ) (m : Queue) (inv : Inv k m) (rest : Settled (phases m)) where
  -- With somebody waiting, exactly k hold.
  pub all_held : (p t : ℕ) → phase_in (phases m) p ≡ Waiting t → sum holding m ≡ k
  unfolding pick is_one_of
  all_held p t e = go m.figures.counter refl
    where
      bringing : sum resuming m ≡ 0
      bringing = idle inv.tickets rest (Resuming ∷ ResumingAt 0 ∷ []) one refl

      declining : sum refusing m ≡ 0
      declining = idle inv.tickets rest (Refusing 0 ∷ []) one refl

      go : (c : ℤ) → m.figures.counter ≡ c → sum holding m ≡ k
      go (pos n) z =
          omega (
            arith,
            one_in inv.tickets live p (Waiting t) refl e,
            held-most k m inv,
            inv.owing,
            permits k m inv,
            no-permits inv.tickets rest,
            bringing,
            ap up z,
            ap down z,
          )
      go (negsuc n) z =
          omega (arith, held-most k m inv, permits k m inv, no-permits inv.tickets rest, bringing, declining, ap up z)
