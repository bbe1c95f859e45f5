-- What is known of a record that a schedule reached and on which everybody is at rest.
use Prim.Native.Nat.{ℕ, zero, suc, ◌+◌, ◌≤◌, ◌<◌}
use mathlib.Core.Path.{◌≡◌, refl, sym}
use mathlib.Core.Bool.{true, false}
use mathlib.Core.List.{List}
use mathlib.Core.Logic.{◌⊎◌}
use native.Mathlib.Omega.{arith}
use borrow.Author.Tests.{lt-ltb}
use lib.Dec.{ltb}
use lib.IntN.{ℤ, pos, negsuc}
use lib.ListN.{length}
use Rattle.hub.specs.declared.moves.Call.{Call}
use Rattle.hub.specs.declared.record.Hub.{Hub}
use Rattle.hub.specs.declared.record.Phase.{Phase}
use Rattle.hub.specs.declared.record.Place.{Place}
use Rattle.hub.specs.Basics.{count}
use Rattle.hub.specs.Calls.{ring_of}
use Rattle.hub.specs.Calm.{rests}
use Rattle.hub.specs.Fits.{fits}
use Rattle.hub.specs.Ledger.{at_counter, below_by}
use Rattle.hub.specs.Phases.{is_holding, is_waiting}
use Rattle.hub.specs.Record.{PARTIES, phases_of, read_slot}
use Rattle.hub.specs.Ring.{PLACES, can_retire, can_skip, read_place}
use Rattle.hub.specs.Schedule.{run}
use Rattle.hub.specs.Table.{above_zero, below_zero}

pub record AtRest (h : Hub) : Type 0 where
  pub calm : (p : ℕ) → rests h p ≡ true
  -- it fits, and so does what any calls lead to from here
  pub fit : (cs : List Call) → fits (run h cs) ≡ true
  pub few : (1 ≤ h.control.opening.parties) × (h.control.opening.parties ≤ PARTIES)
  pub beyond : (p : ℕ) → h.control.opening.parties ≤ p → (read_slot h.slots p).phase ≡ Phase.Free
  pub slots : length h.slots ≡ PARTIES
  pub places : length h.places ≡ PLACES
  -- the tidying has nothing to do
  pub unskipped : can_skip (ring_of h) ≡ false
  pub unretired : can_retire (ring_of h) ≡ false
  -- the line: of the tickets from the next to resume up to the next issued each is waited with or cancelled,
  -- those before are done and have no place, and the place of the next issued is empty if there is one
  pub oldest : h.control.oldest ≡ h.control.figures.resumed
  pub drawn : h.control.figures.resumed ≤ h.control.figures.issued
  pub room : h.control.figures.issued ≤ h.control.oldest + PLACES
  pub waits : (p t : ℕ) → (read_slot h.slots p).phase ≡ Phase.Waiting t
      → (read_place h.places t ≡ Place.Waiting p) × (h.control.figures.resumed ≤ t) × (t < h.control.figures.issued)
  pub line : (t : ℕ) → h.control.figures.resumed ≤ t → t < h.control.figures.issued
      → (read_place h.places t ≡ Place.Cancelled)
      ⊎ ((p : ℕ) × ((read_slot h.slots p).phase ≡ Phase.Waiting t))
  pub spare : h.control.figures.issued < h.control.oldest + PLACES
      → read_place h.places h.control.figures.issued ≡ Place.Empty
  -- the counter: above zero the permits that nobody holds, below zero the waits; each with its radio
  pub holders : count is_holding (phases_of h.slots) + at_counter h.control.figures.counter
      ≡ h.control.opening.permits
  pub waiters : count is_waiting (phases_of h.slots) ≡ below_by h.control.figures.counter
  pub stored : h.control.opening.named ≡ true → h.control.pool.stored ≡ at_counter h.control.figures.counter

-- Above zero something is there; below zero something is due.
pub above_zero_lem : (z : ℤ) → above_zero z ≡ ltb 0 (at_counter z)
above_zero_lem (pos zero) = refl
above_zero_lem (pos (suc n)) = sym (lt-ltb 0 (suc n) (omega arith))
above_zero_lem (negsuc n) = refl

pub below-zero : (z : ℤ) → below_zero z ≡ ltb 0 (below_by z)
below-zero (pos n) = refl
below-zero (negsuc n) = sym (lt-ltb 0 (suc n) (omega arith))
