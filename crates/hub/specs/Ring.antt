-- The places of 256 successive tickets, which are a ring, and the tidying that ends every success.
-- All of it is about places and tickets alone.
use Rattle.std.specs.Prelude.{ℕ, zero, suc, ◌+◌, ◌%◌, Bool, cond, false, ◌&&◌, List, ◌≡◌, ltb, length, get_or, set}
use Rattle.hub.specs.declared.record.Place.{Place}
use Rattle.hub.specs.declared.record.PlaceSlot.{PlaceSlot}
use Rattle.hub.specs.Phases.{is_cancelled, is_done}
use Rattle.hub.specs.Record.{empty_seat, with_place}

-- How many tickets have a place.
abbrev pub PLACES : ℕ
PLACES = 256

-- The place of ticket t is at t modulo 256.
unfoldable pub read_seat : List PlaceSlot → ℕ → PlaceSlot
read_seat l t = get_or l (t % PLACES) empty_seat

unfoldable pub write_seat : List PlaceSlot → ℕ → PlaceSlot → List PlaceSlot
write_seat l t a = set l (t % PLACES) a

abbrev pub read_place : List PlaceSlot → ℕ → Place
read_place l t = (read_seat l t).place

-- What the tidying looks at and moves.
pub record Ring : Type 0 where
  pub resumed : ℕ  -- the next ticket to resume
  pub oldest : ℕ  -- the first ticket that has a place
  pub places : List PlaceSlot

-- Is the next ticket to resume within the 256, and its place cancelled?
abbrev pub can_skip : Ring → Bool
can_skip r =
    ltb r.resumed (r.oldest + PLACES) && is_cancelled (read_place r.places r.resumed)

-- Its place becomes done, and the next ticket is to be resumed.
abbrev pub skipped : Ring → Ring
skipped r =
    let done = with_place Place.Done (read_seat r.places r.resumed) in
    record {
      resumed = r.resumed + 1;
      oldest = r.oldest;
      places = write_seat r.places r.resumed done;
    }

-- Is the oldest place done?
abbrev pub can_retire : Ring → Bool
can_retire r = is_done (read_place r.places r.oldest)

-- It becomes empty, the place of ticket oldest + 256.
abbrev pub retired : Ring → Ring
retired r =
    record {
      resumed = r.resumed;
      oldest = r.oldest + 1;
      places = write_seat r.places r.oldest empty_seat;
    }

-- While it can be skipped, at most n times; and while it can be retired.
unfoldable pub skip : ℕ → Ring → Ring
skip zero r = r
skip (suc n) r = cond (can_skip r) (skip n (skipped r)) r

unfoldable pub retire : ℕ → Ring → Ring
retire zero r = r
retire (suc n) r = cond (can_retire r) (retire n (retired r)) r

-- First the one loop to its end, then the other.
abbrev pub reclaimed : Ring → Ring
reclaimed r = retire PLACES (skip PLACES r)

-- 256 times are enough: both loops end because their test fails, on any ring of 256 places.
unfoldable pub LoopsEnd : Type 0
LoopsEnd =
    (r : Ring) → length r.places ≡ PLACES
    → (can_skip (skip PLACES r) ≡ false) × (can_retire (retire PLACES r) ≡ false)
