-- A hub without radios.
use mathlib.Core.Path.{◌≡◌}
use mathlib.Core.Bool.{true, false}
use Rattle.hub.specs.declared.record.Hub.{Hub}
use Rattle.hub.specs.Fits.{radios_fit}
use Rattle.hub.proofs.Laws.Opening.{unnamed-differ}

pub unnamed-fit : (h : Hub) → h.control.opening.named ≡ false → radios_fit h ≡ true
unfolding radios_fit
unnamed-fit h e = rw (unnamed-differ h.control.opening e, e)
