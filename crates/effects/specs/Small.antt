-- Figures that leave room for one more: what the code may assume of a record that fits.
use Rattle.std.specs.Prelude.{◌≤◌, ◌≡◌, true, ℤ}
use Rattle.hub.specs.declared.moves.Sight.{Sight}
use Rattle.hub.specs.Fits.{counter_fits}
use Rattle.hub.specs.Record.{MAX_BEGUN}

abbrev pub CounterFits : ℤ → Type 0
CounterFits z = counter_fits z ≡ true

pub record Small (s : Sight) : Type 0 where
  pub counter : CounterFits s.figures.counter
  pub issued : s.figures.issued ≤ MAX_BEGUN
  pub resumed : s.figures.resumed ≤ MAX_BEGUN
