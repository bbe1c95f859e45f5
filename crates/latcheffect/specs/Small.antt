-- Figures that leave room for one more: what the code may assume of a record that fits.
use Rattle.std.specs.Prelude.{◌≤◌}
use Rattle.hub.specs.Record.{MAX_BEGUN, PARTIES}
use Rattle.latch.specs.declared.moves.LatchSight.{LatchSight}

pub record Small (s : LatchSight) : Type 0 where
  pub waiters : s.figures.waiters ≤ PARTIES
  pub issued : s.figures.issued ≤ MAX_BEGUN
  pub resumed : s.figures.resumed ≤ MAX_BEGUN
