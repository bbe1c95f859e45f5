-- What the definition says of a party, of a place and of the whole, from what the code has read.
use Prim.Native.Nat.{ℕ, ◌≤◌, ◌<◌}
use mathlib.Core.Path.{◌≡◌, refl, sym, ap, ◌∙◌}
use mathlib.Core.Bool.{Bool, true, false, and-true, ◌&&◌, ◌||◌}
use mathlib.Core.List.{List}
use lib.Dec.{leb, ltb}
use lib.ListN.{length, take, drop}
use borrow.Author.Tests.{leb-true, lt-ltb, le-ltb}
use native.Mathlib.Omega.{arith}
use Rattle.hub.specs.declared.record.Phase.{Phase}
use Rattle.hub.specs.declared.record.Place.{Place}
use Rattle.hub.specs.Basics.{all_from, all_of, implies}
use Rattle.hub.specs.Fits.{place_listed, stands_at}
use Rattle.hub.specs.Fits as hub
use Rattle.hub.specs.Phases.{is_free, is_one_of, of_radios}
use Rattle.hub.specs.Record.{PARTIES, MAX_BEGUN}
use Rattle.hub.specs.Ring.{PLACES, read_place, read_seat}
use Rattle.hub.proofs.Laws.Bools.{clause, second}
use Rattle.hub.proofs.Laws.Phases.{phases-alike}
use Rattle.clauses.specs.Window.{waiter_fits}
use Rattle.std.specs.List.{list_all}
use Rattle.hub.specs.declared.record.PlaceSlot.{PlaceSlot}
use Rattle.clauses.proofs.Laws.Listed.{listed-any}
use Rattle.clauses.proofs.Laws.Ranges.{two-parts}
use Rattle.latch.specs.declared.record.Latch.{Latch}
use Rattle.latch.specs.declared.record.LatchFigures.{LatchFigures}
use Rattle.latch.specs.declared.record.LatchSlot.{LatchSlot}
use Rattle.latch.specs.Fits.{figures_clauses, figures_fit, fits, party_fits, place_fits, slot_fits}
use Rattle.latch.specs.Fits.{ticket_fits}
use Rattle.latch.specs.Look.{seen_by}
use Rattle.latch.specs.Record.{free_slot, read_slot}
use Rattle.latchfit.specs.Tickets.{member_fits, tickets_of}

-- Figures that fit.
module _ (n : ℕ) (f : LatchFigures) (o : ℕ) (e : figures_fit n f o ≡ true) where
  -- No sum of a ticket and 256 goes past 32 bits.
  pub oldest-small : o ≤ MAX_BEGUN
  unfolding figures_fit
  oldest-small =
      omega (
        arith,
        leb-true o f.issued (clause 6 (figures_clauses n f o) e),
        leb-true f.issued MAX_BEGUN (clause 4 (figures_clauses n f o) e),
      )

  -- Every party below n has a slot.
  pub parties-few : n ≤ PARTIES
  unfolding figures_fit
  parties-few = leb-true n PARTIES (second (leb 1 n) _ (clause 0 (figures_clauses n f o) e))

-- The hub's check of a ticket and of its place, on a hub with radios or without.
pub as-at-hub : (f : LatchFigures) (o : ℕ) (x : Phase) (a : Place)
    → hub.ticket_fits (tickets_of f) o x && place_listed x a && implies (of_radios x) true
    ≡ ticket_fits f o x && place_listed x a
unfolding hub.ticket_fits ticket_fits
as-at-hub f o x a = any (of_radios x)
  where
    any : (b : Bool)
        → ticket_fits f o x && place_listed x a && implies b true ≡ ticket_fits f o x && place_listed x a
    any true = and-true _
    any false = and-true _

-- Where the slot fits, the other two clauses decide.
pub slot-passes : (a b c : Bool) {r : Bool} → a ≡ true → r ≡ b && c → r ≡ a && b && c
slot-passes a b c e f = rw e f

-- A free party fits, whatever else is there.
free-fits : (places : List PlaceSlot) (f : LatchFigures) (o : ℕ) (s : LatchSlot)
    → is_free s.phase && member_fits places f o s ≡ is_free s.phase
unfolding slot_fits ticket_fits place_listed all_of is_one_of
free-fits places f o s =
    phases-alike
    (λ x. is_free x && member_fits places f o (record { phase = x; raising = s.raising; left = s.left })) is_free (λ t. refl) s.phase

regroup : (a b c d : Bool) → a && (b && c && d) ≡ a && b && c && d
regroup true b c d = refl
regroup false b c d = refl

abbrev member : Latch → LatchSlot → Bool
member h = member_fits h.places h.figures h.oldest

module _ (h : Latch) (p : ℕ) where
  by-clauses : (ltb p h.parties || is_free (read_slot h.slots p).phase) && member h (read_slot h.slots p) ≡ party_fits h p
  unfolding party_fits seen_by
  by-clauses =
      ap (λ (b : Bool). (ltb p h.parties || is_free (read_slot h.slots p).phase)
      && (slot_fits (read_slot h.slots p) && ticket_fits h.figures h.oldest (read_slot h.slots p).phase && b))
      (listed-any (read_seat h.places) (read_slot h.slots p).phase)
      ∙ regroup (ltb p h.parties || is_free (read_slot h.slots p).phase) _ _ _

  one-of-them : p < h.parties → party_fits h p ≡ member h (read_slot h.slots p)
  one-of-them l = sym by-clauses ∙ rw (lt-ltb p h.parties l)

  -- From n up only a free one fits, and that whatever else is there.
  past-them : h.parties ≤ p → party_fits h p ≡ is_free (read_slot h.slots p).phase
  past-them l = sym by-clauses ∙ rw (le-ltb p h.parties l) (free-fits h.places h.figures h.oldest (read_slot h.slots p))

-- All parties: the first n by their clauses, and the others are free.
all-parties : (h : Latch) → length h.slots ≡ PARTIES → h.parties ≤ PARTIES
    → all_from (party_fits h) 0 PARTIES
    ≡ list_all (member h) (take h.parties h.slots) && list_all (λ s. is_free s.phase) (drop h.parties h.slots)
unfolding read_slot
all-parties h size few =
    ap (all_from (party_fits h) 0) (sym size)
    ∙ two-parts (party_fits h) (member h) (λ s. is_free s.phase) free_slot h.slots h.parties (omega arith) (one-of-them h) (past-them h)

-- The whole: the figures, the parties, the places.
module _ (h : Latch) where
  pub figures-fail : figures_fit h.parties h.figures h.oldest ≡ false → false ≡ fits h
  unfolding fits
  figures-fail e = rw e

  pub by-tests : length h.slots ≡ PARTIES → figures_fit h.parties h.figures h.oldest ≡ true
      → list_all (member h) (take h.parties h.slots) && list_all (λ s. is_free s.phase) (drop h.parties h.slots)
      && all_from (λ t. waiter_fits (λ (s : LatchSlot). s.phase) free_slot h.slots t (read_place h.places t)) h.oldest PLACES
      ≡ fits h
  unfolding fits place_fits read_slot
  by-tests size e = rw (e, all-parties h size (parties-few h.parties h.figures h.oldest e))
