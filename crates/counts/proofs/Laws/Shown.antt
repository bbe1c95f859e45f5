-- What is asked of slots and of places is asked of what they hold.
use Rattle.std.proofs.Common.{Bool, List, sym, ◌≡◌}
use Rattle.hub.specs.declared.record.PartySlot.{PartySlot}
use Rattle.hub.specs.declared.record.Phase.{Phase}
use Rattle.hub.specs.declared.record.Place.{Place}
use Rattle.hub.specs.declared.record.PlaceSlot.{PlaceSlot}
use Rattle.hub.specs.Basics.{bit, count}
use Rattle.hub.specs.Record.{phases_of, places_of}
use Rattle.hub.proofs.Laws.Lists.{weight-map}

pub of-phases : (f : Phase → Bool) (l : List PartySlot) → count (λ s. f s.phase) l ≡ count f (phases_of l)
of-phases f l = sym (weight-map (λ x. bit (f x)) (λ (s : PartySlot). s.phase) l)

pub of-places : (f : Place → Bool) (l : List PlaceSlot) → count (λ s. f s.place) l ≡ count f (places_of l)
of-places f l = sym (weight-map (λ x. bit (f x)) (λ (s : PlaceSlot). s.place) l)
