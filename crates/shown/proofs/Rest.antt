-- What the screen has to know of a hub at rest.
use Prim.Native.Nat.{ℕ, ◌≤◌, ◌<◌}
use mathlib.Core.Path.{◌≡◌, refl, sym, ap, ◌∙◌}
use mathlib.Core.Bool.{Bool, true, false, not, ◌&&◌}
use mathlib.Core.List.{List}
use Rattle.hub.specs.declared.record.Hub.{Hub}
use Rattle.hub.specs.declared.record.Phase.{Phase}
use Rattle.hub.specs.declared.record.Place.{Place}
use Rattle.hub.specs.Ledger.{phase_in}
use Rattle.hub.specs.Phases.{at_rest, by_waiter, holds, is_free, is_holding, is_one_of, is_waiting}
use Rattle.hub.specs.Record.{phases_of}
use Rattle.hub.specs.Ring.{read_place}
use Rattle.hub.specs.Table.{below_zero, can_cancel}
use Rattle.hub.proofs.Laws.Phases.{one_of}
use Rattle.hub.proofs.Laws.Slots.{read-phase}
use Rattle.operations.proofs.Rest.{AtRest}
use Rattle.operations.proofs.Reached.{resting}
use Rattle.operations.proofs.Waits.{next-waits, waiting-below}
use Rattle.shown.proofs.Waiters.{Apart, Between}

abbrev pub phases : Hub → List Phase
phases h = phases_of h.slots

-- The waiter that a hand-over would meet.
abbrev pub next_at : Hub → ℕ
next_at h = by_waiter 0xFF (λ x. x) (read_place h.places h.control.figures.resumed)

-- At rest the tests of a call come to two.
pub free-at-rest : (f : Phase) → at_rest f ≡ true → is_free f ≡ not (is_holding f) && not (is_waiting f)
unfolding is_one_of
free-at-rest = resting (λ f. is_free f ≡ not (is_holding f) && not (is_waiting f)) refl refl (λ t. refl)

pub holds-at-rest : (f : Phase) → at_rest f ≡ true → holds f ≡ is_holding f
unfolding is_one_of
holds-at-rest = resting (λ f. holds f ≡ is_holding f) refl refl (λ t. refl)

pub cancel-at-rest : (f : Phase) → at_rest f ≡ true → can_cancel f ≡ is_waiting f
unfolding is_one_of
cancel-at-rest = resting (λ f. can_cancel f ≡ is_waiting f) refl refl (λ t. refl)

module _ (h : Hub) (r : AtRest h) where
  waits : (p t : ℕ) → phase_in (phases h) p ≡ Phase.Waiting t
      → (read_place h.places t ≡ Place.Waiting p) × (h.control.figures.resumed ≤ t) × (t < h.control.figures.issued)
  waits p t e = r.waits p t (read-phase h.slots p ∙ e)

  -- Each number is one party's: its place says whose.
  pub apart : Apart (phases h)
  apart p q t e f =
      let i = (waits p t e).0 in
      let j = (waits q t f).0 in
      cc

  pub between : Between h.control.figures.resumed h.control.figures.issued (phases h)
  between p t e = ((waits p t e).1, (waits p t e).2)

  pub calm : (p : ℕ) → at_rest (phase_in (phases h) p) ≡ true
  calm p = ap at_rest (sym (read-phase h.slots p)) ∙ r.calm p

  -- Where nothing is due nobody waits.
  pub nobody : below_zero h.control.figures.counter ≡ false → (p : ℕ) → is_waiting (phase_in (phases h) p) ≡ false
  nobody e p = go (is_waiting (phase_in (phases h) p)) refl
    where
      go : (b : Bool) → is_waiting (phase_in (phases h) p) ≡ b → is_waiting (phase_in (phases h) p) ≡ false
      go false z = z
      go true z =
          let y : true ≡ false =
          sym (waiting-below h r p _ (read-phase h.slots p ∙ one_of (Phase.Waiting 0) _ z)) ∙ e in
          cc

  -- Else the next number to resume is waited with, by the party that its place names.
  pub next : below_zero h.control.figures.counter ≡ true
      → phase_in (phases h) (next_at h) ≡ Phase.Waiting h.control.figures.resumed
  next e =
      let q = next-waits h r e in
      ap (λ (a : Place). phase_in (phases h) (by_waiter 0xFF (λ x. x) a)) (r.waits q.0 _ q.1).0
      ∙ sym (read-phase h.slots q.0) ∙ q.1
