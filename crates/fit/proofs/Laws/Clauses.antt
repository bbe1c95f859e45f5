-- What the definition says of a party, of a place and of the whole, from what the code has read.
use Prim.Native.Nat.{ℕ, ◌≤◌, ◌<◌}
use mathlib.Core.Path.{◌≡◌, refl, sym, ap, ◌∙◌}
use mathlib.Core.Bool.{Bool, true, false, and-false, and-true, ◌&&◌, ◌||◌}
use mathlib.Core.List.{List}
use lib.Dec.{leb, ltb}
use lib.ListN.{length, take, drop}
use borrow.Author.Tests.{leb-true, lt-ltb, le-ltb}
use native.Mathlib.Omega.{arith}
use Rattle.hub.specs.declared.opening.Opening.{Opening}
use Rattle.hub.specs.declared.record.Figures.{Figures}
use Rattle.hub.specs.declared.record.Hub.{Hub}
use Rattle.hub.specs.declared.record.Phase.{Phase}
use Rattle.hub.specs.declared.record.PartySlot.{PartySlot}
use Rattle.hub.specs.declared.record.PlaceSlot.{PlaceSlot}
use Rattle.hub.specs.Basics.{all_from, all_of, implies}
use Rattle.hub.specs.Fits.{figures_clauses, figures_fit, ticket_fits, place_listed}
use Rattle.hub.specs.Fits.{fits, kinds_fit, party_fits, place_fits, radios_fit, state_fits}
use Rattle.hub.specs.Look.{seen_by}
use Rattle.hub.specs.Phases.{is_free, is_one_of, of_radios}
use Rattle.hub.specs.Radios.{STORE}
use Rattle.hub.specs.Record.{PARTIES, MAX_BEGUN, free_slot, read_slot}
use Rattle.hub.specs.Ring.{PLACES, read_place, read_seat}
use Rattle.hub.proofs.Laws.Bools.{clause, first, second}
use Rattle.hub.proofs.Laws.Phases.{phases-alike}
use Rattle.clauses.specs.Window.{waiter_fits}
use Rattle.fit.specs.Members.{member_fits}
use Rattle.std.specs.List.{list_all}
use Rattle.clauses.proofs.Laws.Listed.{listed-any}
use Rattle.clauses.proofs.Laws.Ranges.{two-parts}

-- Figures that fit.
module _ (x : Opening) (f : Figures) (o : ℕ) (e : figures_fit x f o ≡ true) where
  -- No sum of a ticket and 256 goes past 32 bits.
  pub oldest-small : o ≤ MAX_BEGUN
  unfolding figures_fit
  oldest-small =
      omega (
        arith,
        leb-true o f.issued (clause 6 (figures_clauses x f o) e),
        leb-true f.issued MAX_BEGUN (clause 4 (figures_clauses x f o) e),
      )

  -- Every radio has room in the store.
  pub permits-few : x.permits ≤ STORE
  unfolding figures_fit
  permits-few =
      leb-true x.permits STORE
      (second (leb 1 x.permits) _ (clause 0 (figures_clauses x f o) e))

  -- Every party below n has a slot.
  pub parties-few : x.parties ≤ PARTIES
  unfolding figures_fit
  parties-few =
      leb-true x.parties PARTIES
      (second (leb 1 x.parties) _ (clause 1 (figures_clauses x f o) e))

-- A party's clauses, with the place at its ticket, whether or not it has one.
abbrev member : Hub → PartySlot → Bool
member h s = member_fits h.places h.control.figures h.control.oldest h.control.opening.named s.phase

-- A free party fits, whatever else is there.
free-fits : (places : List PlaceSlot) (f : Figures) (o : ℕ) (named : Bool) (x : Phase)
    → is_free x && member_fits places f o named x ≡ is_free x
unfolding ticket_fits place_listed all_of is_one_of
free-fits places f o named =
    phases-alike (λ x. is_free x && member_fits places f o named x) is_free (λ t. refl)

regroup : (a b c d : Bool) → a && (b && c && d) ≡ a && b && c && d
regroup true b c d = refl
regroup false b c d = refl

module _ (h : Hub) (p : ℕ) where
  by-clauses : (ltb p h.control.opening.parties || is_free (read_slot h.slots p).phase) && member h (read_slot h.slots p) ≡ party_fits h p
  unfolding party_fits seen_by
  by-clauses =
      ap (λ (b : Bool). (ltb p h.control.opening.parties || is_free (read_slot h.slots p).phase)
      && (ticket_fits h.control.figures h.control.oldest (read_slot h.slots p).phase && b
      && implies (of_radios (read_slot h.slots p).phase) h.control.opening.named))
      (listed-any (read_seat h.places) (read_slot h.slots p).phase)
      ∙ regroup (ltb p h.control.opening.parties || is_free (read_slot h.slots p).phase) _ _ _

  one-of-them : p < h.control.opening.parties → party_fits h p ≡ member h (read_slot h.slots p)
  one-of-them l = sym by-clauses ∙ rw (lt-ltb p h.control.opening.parties l)

  -- From n up only a free one fits, and that whatever else is there.
  past-them : h.control.opening.parties ≤ p → party_fits h p ≡ is_free (read_slot h.slots p).phase
  past-them l = sym by-clauses ∙ rw (le-ltb p h.control.opening.parties l) (free-fits h.places h.control.figures h.control.oldest h.control.opening.named (read_slot h.slots p).phase)

-- All parties: the first n by their clauses, and the others are free.
pub all-parties : (h : Hub) → length h.slots ≡ PARTIES → h.control.opening.parties ≤ PARTIES
    → all_from (party_fits h) 0 PARTIES
    ≡ list_all (member h) (take h.control.opening.parties h.slots)
    && list_all (λ s. is_free s.phase) (drop h.control.opening.parties h.slots)
unfolding read_slot
all-parties h size few =
    ap (all_from (party_fits h) 0) (sym size)
    ∙ two-parts (party_fits h) (member h) (λ s. is_free s.phase) free_slot h.slots h.control.opening.parties (omega arith)
    (one-of-them h) (past-them h)

-- The whole: the figures and the kinds, the parties, the places, the radios.
module _ (h : Hub) where
  abbrev pub outline_fits : Bool
  outline_fits = figures_fit h.control.opening h.control.figures h.control.oldest && kinds_fit h.control.opening

  -- Its definition, by the code's tests.
  pub by-tests : length h.slots ≡ PARTIES → outline_fits ≡ true
      → list_all (member h) (take h.control.opening.parties h.slots)
      && list_all (λ s. is_free s.phase) (drop h.control.opening.parties h.slots)
      && all_from (λ t. waiter_fits (λ (s : PartySlot). s.phase) free_slot h.slots t (read_place h.places t)) h.control.oldest PLACES
      && radios_fit h
      ≡ fits h
  unfolding fits state_fits place_fits read_slot
  by-tests size e =
      let f = figures_fit h.control.opening h.control.figures h.control.oldest in
      let k = kinds_fit h.control.opening in
      let few = parties-few h.control.opening h.control.figures h.control.oldest (first f k e) in
      rw (first f k e, second f k e, all-parties h size few) (sym (and-true _))

  pub outline-fails : outline_fits ≡ false → false ≡ fits h
  unfolding fits state_fits
  outline-fails e = go (figures_fit h.control.opening h.control.figures h.control.oldest) refl
    where
      go : (b : Bool) → figures_fit h.control.opening h.control.figures h.control.oldest ≡ b → false ≡ fits h
      go true i = rw (sym (ap (λ (b : Bool). b && kinds_fit h.control.opening) i) ∙ e, and-false)
      go false i = rw i
