-- Every record that a schedule reaches fits.
use Prim.Native.Nat.{ℕ, ◌+◌, ◌≤◌, ◌<◌}
use mathlib.Core.Path.{◌≡◌, refl, sym, ap, ap₂, subst, ◌∙◌}
use mathlib.Core.Bool.{Bool, true, false, cond, ◌||◌}
use native.Mathlib.Omega.{arith}
use borrow.Author.Tests.{lt-ltb, le-leb, ltb-true, ltb-false, eq-eqb}
use lib.Dec.{ltb}
use lib.IntN.{ℤ, pos, negsuc}
use Rattle.hub.specs.Moves.{Move}
use Rattle.hub.specs.Moves.{Refuse, Tell, Act, Put, Wake}
use Rattle.hub.specs.declared.moves.Op.{Op}
use Rattle.hub.specs.declared.moves.Sight.{Sight}
use Rattle.hub.specs.declared.opening.Opening.{Opening}
use Rattle.hub.specs.declared.record.Figures.{Figures}
use Rattle.hub.specs.declared.record.Hub.{Hub}
use Rattle.hub.specs.declared.record.Phase.{Phase}
use Rattle.hub.specs.Basics.{bit, implies}
use Rattle.hub.specs.Fits.{counter_fits, figures_fit, ticket_fits}
use Rattle.hub.specs.Fits.{party_fits, place_fits, radios_fit, state_fits, fits}
use Rattle.hub.specs.Ledger.{phase_in}
use Rattle.hub.specs.Look.{look, seen_by}
use Rattle.hub.specs.Opening.{radios_differ}
use Rattle.hub.specs.Phases.{is_one_of, is_free, of_radios}
use Rattle.hub.specs.Queue.{Queue, phases}
use Rattle.hub.specs.Queue as queue
use Rattle.hub.specs.Radios.{rearranged}
use Rattle.hub.specs.Record.{PARTIES, read_slot}
use Rattle.hub.specs.Ring.{PLACES}
use Rattle.hub.specs.Table.{decide, step, row_in, step_in}
use Rattle.hub.proofs.Laws.Bools.{both, first, passed}
use Rattle.hub.proofs.Laws.Lists.{weight-length, weight-add}
use Rattle.hub.proofs.Laws.Phases.{every-phase}
use Rattle.hub.proofs.Laws.Ranges.{all_true}
use Rattle.hub.proofs.Laws.Slots.{read-phase}
use Rattle.hub.proofs.Laws.Table.{is_listed, listed-is-tabled}
use Rattle.hub.proofs.Invariant.Weights.{up, down, pick, suspending, live, radioed}
use Rattle.hub.proofs.Invariant.Potential.{rests_if}
use Rattle.hub.proofs.Invariant.Rows.{Good}
use Rattle.hub.proofs.Invariant.Walk.{decide-good}
use Rattle.hub.proofs.Invariant.Held.{short}
use Rattle.hub.proofs.Radios.Kept.{Kept}
use Rattle.hub.proofs.Radios.Length.{kept-length}
use Rattle.hub.proofs.Window.Fitting.{absent-free, numbers_fit, ticket-fits, up-to-32, waiter-stands, where-true}
use Rattle.hub.proofs.Window.Shown.{Reached, Tracks, tracked, read_same, look-same}

-- A good move is one that the table lists.
good-listed : (k : ℕ) (o : Op) (p : ℕ) (m : Queue) (f : Phase) (v : Move)
    → Good k o p m f v → is_listed v ≡ true
good-listed k o p m f (Refuse r) g = first (is_listed (Refuse r)) (rests_if o f) g
good-listed k o p m f (Tell y) g = refl
good-listed k o p m f (Act c) g = refl
good-listed k o p m f (Put a c) g = refl
good-listed k o p m f (Wake q s a c) g = refl

one-wait : (f : Phase) → suspending f + live f ≤ 1
unfolding pick is_one_of
one-wait = every-phase (λ f. suspending f + live f ≤ 1) (λ t. omega arith)

-- A phase of radios in the count is one in the test.
pub with-radios : (f : Phase) (b : Bool) → radioed f ≤ bit b → implies (of_radios f) b ≡ true
unfolding pick
with-radios f b = go (of_radios f) b
  where
    go : (a b : Bool) → cond a 1 0 ≤ bit b → implies a b ≡ true
    go true true i = refl
    go true false i = let z : ⊥ = omega arith in absurd z
    go false b i = refl

module _ (k : ℕ) (h : Hub) (m : Queue) (r : Tracks k h m) where
  counter-fits : (c : ℤ) → m.figures.counter ≡ c → k ≤ 32 → counter_fits c ≡ true
  unfolding counter_fits
  counter-fits (pos n) e j = le-leb n 32 (omega (arith, r.inv.owing, ap up e, ap down e))
  counter-fits (negsuc n) e j =
      lt-ltb n 32
      (omega (
        arith,
        short k m r.inv,
        ap down e,
        r.inv.tickets.size,
        weight-length (λ f. suspending f + live f) one-wait (phases m),
        weight-add suspending live (phases m),
      ))

  figures-fit : 1 ≤ k → k ≤ 32 → figures_fit h.control.opening h.control.figures h.control.oldest ≡ true
  unfolding figures_fit
  figures-fit a b =
      let few = r.inv.tickets.few in
      let same-n = ap (λ (o : Opening). o.parties) r.shows.opening in
      ap (λ (f : Figures). figures_fit h.control.opening f h.control.oldest) r.shows.figures
      ∙ passed _ _ (up-to-32 h.control.opening.permits (omega (arith, r.permits)) (omega (arith, r.permits)))
      (passed _ _ (up-to-32 h.control.opening.parties (omega arith) (omega arith))
      (passed _ _ (counter-fits m.figures.counter refl b) (numbers_fit (tracked r))))

  -- The table lists the step of every party; those from n up are at rest.
  listed : (p : ℕ) (b : Bool) → ltb p m.opening.parties ≡ b
      → is_listed (step (queue.look m p)) ≡ true
  unfolding decide row_in seen_by
  listed p true e =
      good-listed k Op.Step p m (queue.look m p).slot.phase (step (queue.look m p))
      (decide-good k m p (ltb-true p m.opening.parties e) r.inv Op.Step)
  listed p false e =
      let free : (read_slot m.slots p).phase ≡ Phase.Free =
      read-phase m.slots p ∙ r.inv.tickets.beyond p (ltb-false p m.opening.parties e) in
      subst (λ (f : Phase). is_listed (step_in f (queue.look m p)) ≡ true) (sym free) refl

  party-fits : (p : ℕ) → party_fits h p ≡ true
  unfolding party_fits ticket_fits seen_by
  party-fits p =
      both _ _
      (both _ _
      (both _ _
      (ap (λ (o : Opening). ltb p o.parties || is_free (read_slot h.slots p).phase) r.shows.opening
      ∙ absent-free (tracked r) p _ (read_same k h m r p))
      (ap₂ (λ (f : Figures). ticket_fits f h.control.oldest) r.shows.figures (read_same k h m r p)
      ∙ ticket-fits (tracked r) p _ refl))
      (sym (listed-is-tabled (look h p))
      ∙ ap (λ (s : Sight). is_listed (step s)) (look-same k h m r p) ∙ listed p _ refl))
      (ap₂ (λ (f : Phase) (o : Opening). implies (of_radios f) o.named) (read_same k h m r p)
      r.shows.opening ∙ with-radios (phase_in (phases m) p) m.opening.named (r.inv.radios p))

  place-fits : (t : ℕ) → h.control.oldest ≤ t → t < h.control.oldest + PLACES → place_fits h t ≡ true
  unfolding place_fits
  place-fits = waiter-stands (tracked r) (λ p. (read_slot h.slots p).phase) (read_same k h m r)

-- Each radio is somewhere once.
radios-fit : (h : Hub) → radios_differ h.control.opening ≡ true → (h.control.opening.named ≡ true → Kept h)
    → radios_fit h ≡ true
unfolding radios_fit rearranged
radios-fit h d e =
    both _ _ d
    (where-true _ _ (λ i. both _ _ (eq-eqb _ _ (kept-length h (e i)))
    (all_true _ 0 256 (λ b x y. eq-eqb _ _ ((e i).same b)))))

pub reached-fits : (k : ℕ) (h : Hub) (m : Queue) → Reached k h m → 1 ≤ k → k ≤ 32 → fits h ≡ true
unfolding fits state_fits
reached-fits k h m r a b =
    let t = r.tracks in
    both _ _
    (both _ _
    (both _ _
    (both _ _ (figures-fit k h m t a b)
    (all_true (party_fits h) 0 PARTIES (λ p i j. party-fits k h m t p)))
    (all_true (place_fits h) h.control.oldest PLACES (place-fits k h m t)))
    (radios-fit h r.differ r.radios))
    r.kinds
