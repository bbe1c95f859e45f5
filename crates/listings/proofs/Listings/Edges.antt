-- The listings' edges hold: the runs compute.
use mathlib.Core.Path.{refl}
use Rattle.listings.specs.Listings.Edges.{HeldOnce, HeldTwice, SaysPaperRun}
use Rattle.listings.specs.Listings.Machine.{act, happen, idle, park, play, override}
use Rattle.listings.specs.Listings.Words.{said, said_at, said_at_park, told}

pub says-paper-run : SaysPaperRun
unfolding SaysPaperRun told said_at said said_at_park play happen act park override idle
says-paper-run = (refl, refl)

pub held-twice : HeldTwice
unfolding HeldTwice play happen act park override idle
held-twice = (refl, refl, refl)

pub held-once : HeldOnce
unfolding HeldOnce play happen act park override idle
held-once = (refl, refl, refl)
