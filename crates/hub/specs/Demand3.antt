-- The third demand: one claim over every schedule from an opening.
use Rattle.std.specs.Prelude.{ℕ, ◌+◌, ◌≤◌, ◌<◌, ◌≡◌, true, List, [], ◌∷◌}
use Rattle.hub.specs.declared.answers.Answer.{Answer}
use Rattle.hub.specs.declared.moves.Call.{Call}
use Rattle.hub.specs.declared.opening.Opening.{Opening}
use Rattle.hub.specs.declared.record.Hub.{Hub}
use Rattle.hub.specs.declared.record.Phase.{Phase}
use Rattle.hub.specs.Basics.{count}
use Rattle.hub.specs.Fits.{fits}
use Rattle.hub.specs.Ledger.{Ledger, ledger, opened, phase_in, held, at_counter, on_the_way}
use Rattle.hub.specs.Ledger.{coming, declined, permit_places, refused_places, below_by}
use Rattle.hub.specs.Opening.{opening}
use Rattle.hub.specs.Phases.{at_rest, holds, is_unserved, is_permit, is_refused}
use Rattle.hub.specs.Record.{phases_of, places_of}
use Rattle.hub.specs.Schedule.{run, entries}

-- Every number of a list is below t.
unfoldable pub AllBelow : ℕ → List ℕ → Type 0
AllBelow t [] = Unit {0}
AllBelow t (x ∷ xs) = (x < t) × AllBelow t xs

-- Everybody is at rest.
abbrev pub Calm : List Phase → Type 0
Calm l = (p : ℕ) → at_rest (phase_in l p) ≡ true

-- What holds of k permits, a ledger e and the record h that the schedule left.
pub record Accounts (k : ℕ) (e : Ledger) (h : Hub) : Type 0 where
  -- Held + at the counter + on the way = K.
  pub sum : held e + at_counter e.counter + on_the_way e ≡ k
  -- The counter's size below zero and the permits on the way are together the unserved waits: so
  -- below zero it is the number of those that no permit comes for.
  pub unserved : below_by e.counter + on_the_way e ≡ count is_unserved e.phases
  -- None of the differences in it is cut off at 0.
  pub held_whole : e.took ≤ e.gave
  pub permits_whole : e.cleared ≤ e.left
  pub refused_whole : e.met ≤ e.refused
  pub way_whole : declined e ≤ coming e
  -- The record shows the same: its phases, its counter, its link and refused places.
  pub phases : phases_of h.slots ≡ e.phases
  pub counter : h.control.figures.counter ≡ e.counter
  pub permits : count is_permit (places_of h.places) ≡ permit_places e
  pub refusals : count is_refused (places_of h.places) ≡ refused_places e
  -- The parties that hold are as many as the permits held, and at most K.
  pub holders : count holds e.phases ≡ held e
  pub most : held e ≤ k
  -- If all are at rest and somebody waits, exactly K hold, and every wait served so far has a
  -- lower number than every wait that stands.
  pub calm : Calm e.phases → (p t : ℕ) → phase_in e.phases p ≡ Phase.Waiting t
      → (held e ≡ k) × AllBelow t e.served

-- For every opening that is accepted and every list of calls.
unfoldable pub Demand3 : Type 0
Demand3 =
    (o : Opening) → (opening o).answer ≡ Answer.Opened → (cs : List Call)
    → let h = (opening o).hub in
    Accounts o.permits (ledger (opened o) (entries h cs)) (run h cs)

-- And every record reached fits, so that no schedule meets refusal 1.
unfoldable pub ReachedFits : Type 0
ReachedFits =
    (o : Opening) → (opening o).answer ≡ Answer.Opened → (cs : List Call)
    → fits (run (opening o).hub cs) ≡ true
