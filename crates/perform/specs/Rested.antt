-- The records on which operations are made.
use Rattle.std.specs.Prelude.{ℕ, ◌≡◌, true}
use Rattle.hub.specs.declared.record.Hub.{Hub}
use Rattle.hub.specs.Calm.{rests}
use Rattle.batch.specs.Batch.{Reachable}

-- Reached from an opening, with everybody at rest.
pub record Rested (h : Hub) : Type 0 where
  pub reachable : Reachable h
  pub calm : (p : ℕ) → rests h p ≡ true
