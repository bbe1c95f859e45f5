-- Everybody is at rest on a hub just opened, and again after every operation.
use Prim.Native.Nat.{ℕ, ◌+◌, ◌≤◌}
use mathlib.Core.Path.{◌≡◌, refl, sym, ap, subst, ◌∙◌}
use mathlib.Core.Bool.{true}
use native.Mathlib.Omega.{arith}
use mathlib.Core.List.{◌∷◌, ◌++◌}
use lib.Dec.{leb}
use Rattle.hub.specs.declared.moves.Call.{Call}
use Rattle.hub.specs.declared.record.Hub.{Hub}
use Rattle.hub.specs.declared.record.Phase.{Phase}
use Rattle.hub.specs.declared.record.Phase.TheVariants.{Free}
use Rattle.hub.specs.Basics.{bit, count}
use Rattle.hub.specs.Calls.{is_full}
use Rattle.hub.specs.Calm.{rests}
use Rattle.hub.specs.Fits.{fits}
use Rattle.hub.specs.Opening.{opening}
use Rattle.hub.specs.Phases.{RESTING, at_rest, by_waiter, draws_ticket, is_one_of}
use Rattle.hub.specs.Record.{phases_of}
use Rattle.hub.specs.Ring.{PLACES, read_place}
use Rattle.hub.specs.Schedule.{run}
use Rattle.hub.specs.Table.{below_zero}
use Rattle.hub.proofs.Laws.Lists.{weight-scale}
use Rattle.hub.proofs.Laws.Phases.{each_of}
use Rattle.hub.proofs.Laws.Slots.{read-phase}
use Rattle.batch.specs.Batch.{Reachable}
use Rattle.batch.proofs.Laws.Reachable.{reachable-fits}
use Rattle.operations.specs.AtRest.{ComesTo, EndsAtRest, is_operation, operated_at_rest}
use Rattle.operations.specs.Operation.{operated, steps_after}
use Rattle.operations.proofs.Operations.{comes-to, ends-at-rest}
use Rattle.operations.proofs.Reached.{at_rest_lem, run_more}
use Rattle.operations.proofs.Rest.{AtRest}
use Rattle.operations.proofs.Waits.{next-waits, waiter-inside}
use Rattle.perform.specs.Rested.{Rested}

draws-none : (f : Phase) → at_rest f ≡ true → bit (draws_ticket f) ≡ 0
unfolding is_one_of
draws-none = each_of (λ f. bit (draws_ticket f) ≡ 0) RESTING (λ t. (refl, (refl, (refl, tt))))

module _ (h : Hub) (r : Rested h) where
  known : AtRest h
  known =
      let a = r.reachable in
      subst (λ (g : Hub). ((p : ℕ) → rests g p ≡ true) → AtRest g) (sym a.same)
      (at_rest_lem a.from a.accepted a.calls) r.calm

  -- Whoever is next in line is one of the 32.
  pub next-in-line : below_zero h.control.figures.counter ≡ true
      → by_waiter 0xFF (λ q. q) (read_place h.places h.control.figures.resumed) ≤ 0xFF
  next-in-line e =
      let w = next-waits h known e in
      omega (
        arith,
        ap (by_waiter 0xFF (λ q. q)) (known.waits w.0 h.control.figures.resumed w.1).0,
        waiter-inside h known w.0 h.control.figures.resumed w.1,
        known.slots,
      )

  -- Nobody is to draw a ticket: there is room or not whoever is counted.
  nobody-draws : count draws_ticket (phases_of h.slots) ≡ 0
  nobody-draws =
      omega (
        arith,
        weight-scale 1 0 (λ f. bit (draws_ticket f)) (λ f. bit (draws_ticket f)) Free (phases_of h.slots)
            (λ i k. omega (arith, draws-none _ (ap at_rest (sym (read-phase h.slots i)) ∙ r.calm i))),
      )

  pub room-at-rest : (o t : ℕ) → leb (o + PLACES) t ≡ is_full o t h.slots
  room-at-rest o t =
      let same : t ≡ t + count draws_ticket (phases_of h.slots) = omega (arith, nobody-draws) in
      ap (leb (o + PLACES)) same

  pub rested-fits : fits h ≡ true
  rested-fits = reachable-fits h r.reachable

  module _ (c : Call) (o : is_operation c.op ≡ true) where
    -- The steps need not be walked.
    pub closed : operated h c ≡ operated_at_rest h c
    unfolding ComesTo
    closed =
        let a = r.reachable in
        subst (λ (g : Hub). ((p : ℕ) → rests g p ≡ true) → operated g c ≡ operated_at_rest g c) (sym a.same)
        (λ calm. comes-to a.from a.accepted a.calls calm c o) r.calm

    reached : Reachable (operated h c).hub
    unfolding operated
    reached =
        let a = r.reachable in
        let cs = c ∷ steps_after h c in
        record {
          from = a.from;
          calls = a.calls ++ cs;
          accepted = a.accepted;
          same =
              ap (λ (g : Hub). run g cs) a.same ∙ run_more (opening a.from).hub a.calls cs;
        }

    calm-again : (p : ℕ) → rests (operated h c).hub p ≡ true
    unfolding EndsAtRest
    calm-again =
        let a = r.reachable in
        subst
        (λ (g : Hub). ((p : ℕ) → rests g p ≡ true) → (p : ℕ) → rests (operated g c).hub p ≡ true)
        (sym a.same) (λ calm. ends-at-rest a.from a.accepted a.calls calm c o) r.calm

    pub rested-again : Rested (operated h c).hub
    rested-again = record { reachable = reached; calm = calm-again }
