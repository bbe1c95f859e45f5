-- The code's ring, as the definitions have it.
use Rattle.hub.specs.Ring.{Ring}
use Rattle.ring.specs.declared.PlaceRing.{PlaceRing}

abbrev pub ring_in : PlaceRing → Ring
ring_in r = record { resumed = r.resumed; oldest = r.oldest; places = r.places }
