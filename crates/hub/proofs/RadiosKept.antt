-- Every schedule keeps the radios, and a radio comes for every permit: with all others at rest no permit
-- lies at a place, so a radio that is with nobody is stored; and never more than K hold or fetch.
use Prim.Native.Nat.{ℕ, ◌+◌, ◌≤◌, ◌<◌}
use mathlib.Core.Path.{◌≡◌, refl, sym, ap, ap₂, ◌∙◌}
use mathlib.Core.Bool.{Bool, true, not}
use mathlib.Core.List.{List, [], ◌∷◌}
use mathlib.Core.Logic.{◌≢◌}
use native.Mathlib.Decide.{ℕ_discrete}
use native.Mathlib.Omega.{arith}
use borrow.Author.Tests.{le-leb, lt-ltb}
use Rattle.hub.specs.declared.answers.Answer.{Answer}
use Rattle.hub.specs.declared.moves.Op.{Op}
use Rattle.hub.specs.declared.opening.Opening.{Opening}
use Rattle.hub.specs.declared.record.Hub.{Hub}
use Rattle.hub.specs.declared.record.PartySlot.{PartySlot}
use Rattle.hub.specs.declared.record.Phase.{Phase}
use Rattle.hub.specs.declared.record.Phase.TheVariants.{Fetching}
use Rattle.hub.specs.Basics.{bit, count}
use Rattle.hub.specs.Calls.{answer_of, called, checked, is_full}
use Rattle.hub.specs.Ledger.{phase_in}
use Rattle.hub.specs.Look.{look, seen_by}
use Rattle.hub.specs.Opening.{fresh, opening}
use Rattle.hub.specs.Phases.{at_rest, has_radio, is_one_of, is_place_of}
use Rattle.hub.specs.Queue.{Queue, phases}
use Rattle.hub.specs.Radios.{occurs, radios_of}
use Rattle.hub.specs.RadiosKept.{RadiosKept, RadioComes}
use Rattle.hub.specs.Record.{phases_of, read_slot}
use Rattle.hub.specs.Schedule.{run}
use Rattle.hub.specs.Table.{decide, row_in, step_in, step_fetching}
use Rattle.hub.proofs.Laws.Lists.{weight-add, weight-le}
use Rattle.hub.proofs.Laws.Opening.{run-opening}
use Rattle.hub.proofs.Laws.Phases.{every-phase}
use Rattle.hub.proofs.Invariant.Weights.{one, pick, holding, permit_cell, radioed, sum}
use Rattle.hub.proofs.Invariant.Tickets.{one_in, party-in}
use Rattle.hub.proofs.Invariant.Rest.{Settled, settled, rest-settled, no-permits}
use Rattle.hub.proofs.Invariant.Held.{held-most}
use Rattle.hub.proofs.Radios.Kept.{Kept}
use Rattle.hub.proofs.Window.Shown.{Reached, read_same}
use Rattle.hub.proofs.Window.Reached.{reached-fits, with-radios}
use Rattle.hub.proofs.Demand3.{ring-count, schedule, start}

pub radios-kept : RadiosKept
unfolding RadiosKept fresh
radios-kept o e n cs b =
    let same : (run (opening o).hub cs).control.opening ≡ o =
    run-opening (opening o).hub cs ∙ ap (λ (h : Hub). h.control.opening) (start o e).hub in
    let kept = (schedule o e cs).reached.radios (ap (λ (x : Opening). x.named) same ∙ n) in
    kept.same b ∙ ap (λ (x : Opening). occurs b (radios_of x)) same

abbrev fetching : Phase → ℕ
fetching = pick (Fetching ∷ []) one

-- The step of a fetching party, with all others at rest.
module _ (k : ℕ) (h : Hub) (m : Queue) (r : Reached k h m) (p : ℕ)
    (e : (read_slot h.slots p).phase ≡ Fetching)
    (others : (q : ℕ) → q ≢ p → at_rest (read_slot h.slots q).phase ≡ true) where
  fetches : phase_in (phases m) p ≡ Fetching
  fetches = sym (read_same k h m r.tracks p) ∙ e

  -- its phase is one of a hub with radios
  kept : Kept h
  unfolding is_one_of pick
  kept =
      r.radios
      (ap (λ (o : Opening). o.named) r.tracks.shows.opening
      ∙ with-radios Fetching m.opening.named
      (omega (arith, r.tracks.inv.radios p, ap radioed fetches)))

  rest : Settled (phases m)
  unfolding is_one_of
  rest q = go (ℕ_discrete q p)
    where
      go : Dec (q ≡ p) → settled (phase_in (phases m) q) ≡ true
      go (yes z) = ap settled (ap (phase_in (phases m)) z ∙ fetches)
      go (no z) =
          rest-settled (phase_in (phases m) q)
          (ap at_rest (sym (read_same k h m r.tracks q)) ∙ others q z)

  present : p < h.control.opening.parties
  present =
      omega (
        arith,
        party-in r.tracks.inv.tickets p Fetching fetches
            (λ z. (let y : ◌≡◌ {A = ℕ} 0 1 = cc in omega arith)),
        ap (λ (o : Opening). o.parties) r.tracks.shows.opening,
      )

  -- Whoever has a radio holds; whoever fetches holds and has none.
  held-apart : count has_radio (phases m) + sum fetching m ≤ sum holding m
  unfolding pick is_one_of
  held-apart =
      omega (
        arith,
        weight-add (λ f. bit (has_radio f)) fetching (phases m),
        weight-le (λ f. bit (has_radio f) + fetching f) holding Phase.Free (phases m)
            (λ j i. omega (arith, each (phase_in (phases m) j), ap (λ c. bit (not c)) (rest j))),
      )
    where
      each : (f : Phase) → bit (has_radio f) + fetching f ≤ holding f + bit (not (settled f))
      each =
          every-phase (λ f. bit (has_radio f) + fetching f ≤ holding f + bit (not (settled f)))
          (λ t. omega arith)

  stocked : 1 ≤ h.control.pool.stored
  unfolding pick is_one_of is_place_of
  stocked =
      let t = r.tracks in
      omega (
        arith,
        kept.counted,
        t.permits,
        ap (λ (l : List PartySlot). count has_radio (phases_of l)) t.shows.slots,
        ring-count k h m t permit_cell refl refl,
        no-permits t.inv.tickets rest,
        held-apart,
        held-most k m t.inv,
        one_in t.inv.tickets fetching p Fetching refl fetches,
      )

  comes : 1 ≤ k → k ≤ 32 → (called h (record { op = Op.Step; party = p })).answer ≡ Answer.Fetched
  unfolding checked decide row_in step_fetching seen_by
  comes a b =
      ap₂ (λ (x y : Bool). answer_of (checked x y (decide Op.Step full (look h p))))
      (reached-fits k h m r a b) (lt-ltb p h.control.opening.parties present)
      ∙ ap (λ (f : Phase). answer_of (step_in f (look h p))) e
      ∙ ap (λ (x : Bool). answer_of (step_fetching x (look h p)))
      (le-leb 1 h.control.pool.stored stocked)
    where
      full : Bool
      full = is_full h.control.oldest h.control.figures.issued h.slots

pub radio-comes : RadioComes
unfolding RadioComes
radio-comes o e cs p f others =
    let x = schedule o e cs in
    let s = start o e in
    comes o.permits _ x.queue x.reached p f others s.permits.0 s.permits.1
