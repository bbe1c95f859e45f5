-- No call writes a party that is not below n, so that on parties up to 255 a byte does what 32 bits did.
use Prim.Native.Nat.{ℕ, zero, suc, ◌%◌, ◌≤◌}
use mathlib.Core.Bool.{Bool, true, false, cond, ◌&&◌}
use mathlib.Core.List.{List, [], ◌∷◌, map}
use mathlib.Core.Path.{◌≡◌, refl, sym, ap, ap₂, subst, ◌∙◌}
use native.Mathlib.Omega.{arith}
use borrow.Author.Tests.{leb-true, le-leb, ltb-true}
use lib.Dec.{leb, ltb}
use lib.ListN.{get_or}
use Rattle.hub.specs.declared.moves.Call.{Call}
use Rattle.hub.specs.declared.moves.Op.{Op}
use Rattle.hub.specs.declared.moves.Sight.{Sight}
use Rattle.hub.specs.declared.record.Hub.{Hub}
use Rattle.hub.specs.declared.record.Phase.{Phase}
use Rattle.hub.specs.declared.record.Place.{Place}
use Rattle.hub.specs.declared.record.PlaceSlot.{PlaceSlot}
use Rattle.hub.specs.Basics.{all_from}
use Rattle.hub.specs.Calls.{apply, called, checked, is_full, move_of, tidied}
use Rattle.hub.specs.Fits.{figures_clauses, figures_fit, fits, kinds_fit, party_fits, place_fits, radios_fit}
use Rattle.hub.specs.Fits.{state_fits}
use Rattle.hub.specs.Look.{look, seen_by}
use Rattle.hub.specs.Moves.{Move, Refuse, Tell, Act, Put, Wake}
use Rattle.hub.specs.Phases.{by_ticket, by_waiter, ticket_of}
use Rattle.hub.specs.Record.{PARTIES, empty_seat, with_place, with_places}
use Rattle.hub.specs.Ring.{PLACES, Ring, can_retire, can_skip, retire, retired, skip, skipped, write_seat}
use Rattle.hub.specs.Table.{acquire, cancel, decide, release, tell_radio}
use Rattle.hub.specs.Widths.{BYTE, NoLarger, SameCalls, UpTo, WORD, called_in, kept_in, written_in}
use Rattle.hub.proofs.Laws.Bools.{clause, first, second}
use Rattle.hub.proofs.Laws.Phases.{by-ticket, every-place, ticketed}
use Rattle.hub.proofs.Laws.Rows.{calls-alike, open_row}
use Rattle.hub.proofs.Laws.Seats.{written-each}

-- A place with a party up to 255; all places of a list.
abbrev is_small : Place → Bool
is_small = by_waiter true (λ q. leb q 255)

abbrev Small : Place → Type 0
Small a = is_small a ≡ true

abbrev AllSmall : List PlaceSlot → Type 0
AllSmall l = (i : ℕ) → Small (get_or l i empty_seat).place

-- Of a place with a party up to 255 a width that has room for it keeps all.
module _ (n : ℕ) (room : (q : ℕ) → q ≤ 255 → q % n ≡ q) where
  same_place : (a : Place) → Small a → written_in n a ≡ a
  same_place Place.Empty s = refl
  same_place (Place.Waiting q) s = ap Place.Waiting (room q (leb-true q 255 s))
  same_place Place.Permit s = refl
  same_place Place.Cancelled s = refl
  same_place Place.Refused s = refl
  same_place Place.Done s = refl

  same-places : (l : List PlaceSlot) → AllSmall l → map (λ s. with_place (written_in n s.place) s) l ≡ l
  same-places [] s = refl
  same-places (x ∷ l) s =
      ap₂ (λ (a : Place) (k : List PlaceSlot). with_place a x ∷ k) (same_place x.place (s zero))
      (same-places l (λ i. s (suc i)))

  same-hub : (h : Hub) → UpTo 255 h → kept_in n h ≡ h
  same-hub h s =
      ap (λ (l : List PlaceSlot). with_places l h) (same-places h.places s)

-- Storing a small place.
seat-small : (l : List PlaceSlot) (t : ℕ) (a : PlaceSlot) → AllSmall l → Small a.place
    → AllSmall (write_seat l t a)
seat-small l t = written-each l t (λ s. Small s.place)

-- The tidying writes done and empty.
either : (b : Bool) (r s : Ring) → AllSmall r.places → AllSmall s.places
    → AllSmall (cond b r s).places
either true r s x y = x
either false r s x y = y

skip-small : (n : ℕ) (r : Ring) → AllSmall r.places → AllSmall (skip n r).places
unfolding skip
skip-small zero r s = s
skip-small (suc n) r s =
    either (can_skip r) (skip n (skipped r)) r
    (skip-small n (skipped r) (seat-small r.places r.resumed _ s refl)) s

retire-small : (n : ℕ) (r : Ring) → AllSmall r.places → AllSmall (retire n r).places
unfolding retire
retire-small zero r s = s
retire-small (suc n) r s =
    either (can_retire r) (retire n (retired r)) r
    (retire-small n (retired r) (seat-small r.places r.oldest _ s refl)) s

tidied-small : (h : Hub) → UpTo 255 h → UpTo 255 (tidied h)
unfolding tidied
tidied-small h s = retire-small PLACES _ (skip-small PLACES _ s)

-- Is the place that a move writes, if it writes one, small?
abbrev writes_small : Move → Bool
writes_small (Refuse r) = true
writes_small (Tell y) = true
writes_small (Act c) = true
writes_small (Put a c) = is_small a.place
writes_small (Wake q x a c) = is_small a.place

put_small : (l : List PlaceSlot) (f : Phase) (a : PlaceSlot) → AllSmall l → Small a.place
    → AllSmall (by_ticket l (λ t. write_seat l t a) f)
put_small l f a s m =
    subst AllSmall (sym (by-ticket l (λ t. write_seat l t a) f)) (go (ticketed f))
  where
    go : (b : Bool) → AllSmall (cond b (write_seat l (ticket_of f) a) l)
    go true = seat-small l (ticket_of f) a s m
    go false = s

applied-small : (h : Hub) (s : Sight) (m : Move) → UpTo 255 h → writes_small m ≡ true → UpTo 255 (apply h s m)
unfolding apply
applied-small h s (Refuse r) u w = u
applied-small h s (Tell y) u w = u
applied-small h s (Act c) u w = tidied-small _ u
applied-small h s (Put a c) u w = tidied-small _ (put_small h.places s.slot.phase a u w)
applied-small h s (Wake q x a c) u w = tidied-small _ (put_small h.places s.slot.phase a u w)

-- The table writes no party but the caller's.
decided : (s : Sight) → s.party ≤ 255 → (o : Op) (full : Bool) → writes_small (decide o full s) ≡ true
unfolding open_row acquire cancel release tell_radio
decided s few = calls-alike s writes_small true (λ t q. rw (le-leb s.party 255 few)) (λ x. refl)

-- A caller that is not refused is below n, and n is at most 32.
few-parties : (h : Hub) → fits h ≡ true → h.control.opening.parties ≤ 32
unfolding fits state_fits figures_fit
few-parties h e =
    let parties = all_from (party_fits h) 0 PARTIES in
    let places = all_from (place_fits h) h.control.oldest PLACES in
    let f = figures_fit h.control.opening h.control.figures h.control.oldest in
    let state = first (state_fits h) (kinds_fit h.control.opening) e in
    let all = first f parties (first (f && parties) places (first (f && parties && places) (radios_fit h) state)) in
    let n = clause 1 (figures_clauses h.control.opening h.control.figures h.control.oldest) all in
    leb-true h.control.opening.parties 32 (second (leb 1 h.control.opening.parties) _ n)

moved-small : (h : Hub) (c : Call) → writes_small (move_of h c) ≡ true
unfolding checked seen_by
moved-small h c = go (fits h) refl (ltb c.party h.control.opening.parties) refl
  where
    go : (a : Bool) → fits h ≡ a → (b : Bool) → ltb c.party h.control.opening.parties ≡ b
        → writes_small (checked a b
        (decide c.op (is_full h.control.oldest h.control.figures.issued h.slots) (look h c.party))) ≡ true
    go false e b f = refl
    go true e false f = refl
    go true e true f =
        decided (look h c.party)
        (omega (arith, few-parties h e, ltb-true c.party h.control.opening.parties f)) c.op _

called-small : (h : Hub) (c : Call) → UpTo 255 h → UpTo 255 (called h c).hub
called-small h c u = applied-small h (look h c.party) (move_of h c) u (moved-small h c)

module _ (n : ℕ) (room : (q : ℕ) → q ≤ 255 → q % n ≡ q) (h : Hub) (u : UpTo 255 h) (c : Call) where
  same-call : called_in n h c ≡ called h c
  same-call =
      ap (λ (g : Hub). record { answer = (called g c).answer; hub = kept_in n (called g c).hub })
      (same-hub n room h u)
      ∙ ap (λ (g : Hub). record { answer = (called h c).answer; hub = g })
      (same-hub n room (called h c).hub (called-small h c u))

pub same-calls : SameCalls
unfolding SameCalls
same-calls h u c =
    record {
      word = same-call WORD (λ q l. omega arith) h u c;
      byte = same-call BYTE (λ q l. omega arith) h u c;
      again = called-small h c u;
    }

written_small : (a : Place) → Small (written_in BYTE a)
written_small =
    every-place (λ a. Small (written_in BYTE a))
    (λ q. (refl, (le-leb (q % BYTE) 255 (omega arith), (refl, (refl, (refl, (refl, tt)))))))

pub no-larger : NoLarger
unfolding NoLarger
no-larger h = go h.places
  where
    go : (l : List PlaceSlot) → AllSmall (map (λ s. with_place (written_in BYTE s.place) s) l)
    go [] i = refl
    go (x ∷ l) zero = written_small x.place
    go (x ∷ l) (suc i) = go l i
