-- What every call keeps of the radios: a refusal, 37 and 39 move none, the tidying makes and takes no permit,
-- and every other answer moves one as its row says, or none.
use Prim.Native.Nat.{ℕ, zero, suc, ◌+◌, ◌%◌, ◌≤◌}
use mathlib.Core.Path.{◌≡◌, refl, sym, ap, subst, ◌∙◌}
use mathlib.Core.Bool.{Bool, true, false, cond}
use mathlib.Core.List.{List, [], ◌∷◌, map}
use native.Mathlib.Omega.{arith}
use lib.Dec.{eqb, ltb}
use lib.ListN.{length, set, replicate, length-map, length-replicate}
use Rattle.hub.specs.Moves.{Move, Refuse, Tell, Act, Put, Wake}
use Rattle.hub.specs.declared.moves.Call.{Call}
use Rattle.hub.specs.declared.opening.Opening.{Opening}
use Rattle.hub.specs.declared.record.Hub.{Hub}
use Rattle.hub.specs.declared.record.PartySlot.{PartySlot}
use Rattle.hub.specs.declared.record.Phase.{Phase}
use Rattle.hub.specs.declared.record.Place.{Place}
use Rattle.hub.specs.declared.record.PlaceSlot.{PlaceSlot}
use Rattle.hub.specs.Answers.{printed}
use Rattle.hub.specs.Basics.{bit, count, weight}
use Rattle.hub.specs.Calls.{answer_of, apply, called, checked, move_of, placed, ring_of, tidied}
use Rattle.hub.specs.Look.{look, seen_by}
use Rattle.hub.specs.Opening.{fresh}
use Rattle.hub.specs.Phases.{by_ticket, has_radio, is_one_of, is_permit, is_place_of}
use Rattle.hub.specs.Radios.{STORE, moved, occurs, pool_after, radios_in, radios_of, shown, stored_in, padded}
use Rattle.hub.specs.Record.{PARTIES, empty_seat, free_slot, phases_of, places_of, write_slot}
use Rattle.hub.specs.Ring.{PLACES, Ring, can_retire, can_skip, read_place, retire, retired}
use Rattle.hub.specs.Ring.{skip, skipped, write_seat}
use Rattle.hub.proofs.Laws.Bools.{if-false, second}
use Rattle.hub.proofs.Laws.Lists.{map-set}
use Rattle.hub.proofs.Laws.Opening.{kept-opening}
use Rattle.hub.proofs.Laws.Phases.{phases-alike, place_of}
use Rattle.hub.proofs.Laws.Radios.{padded-length}
use Rattle.hub.proofs.Radios.Store.{ring-take}
use Rattle.hub.proofs.Radios.Ways.{Same, Sized, carriers, count-ring, one, permits_at, radios-count}
use Rattle.hub.proofs.Radios.Ways.{radios-weigh, unmoved}
use Rattle.hub.proofs.Laws.Seats.{mapped-same, write-mapped}
use Rattle.hub.proofs.Radios.Rows.{Goes, decide-goes}

pub record Kept (h : Hub) : Type 0 where
  pub slots : length h.slots ≡ PARTIES
  pub places : length h.places ≡ PLACES
  pub hands : length h.control.pool.hands ≡ PARTIES
  pub laid : length h.control.pool.laid ≡ PLACES
  pub store : length h.control.pool.store ≡ STORE
  pub few : h.control.opening.permits ≤ STORE
  pub counted : count has_radio (phases_of h.slots) + count is_permit (places_of h.places)
      + h.control.pool.stored ≡ h.control.opening.permits
  pub same : (b : ℕ)
      → occurs b (radios_in h.slots h.places h.control.pool) ≡ occurs b (radios_of h.control.opening)

-- A record whose radios weigh what those of one with all this do.
kept_by : (h h' : Hub) → Kept h → h'.control.opening ≡ h.control.opening
    → Same (carriers h.slots) (permits_at h.places) h.control.pool (carriers h'.slots)
    (permits_at h'.places) h'.control.pool
    → Kept h'
kept_by h h' k e w =
    record {
      slots = i;
      places = j;
      hands = cc;
      laid = cc;
      store = cc;
      few = rw e k.few;
      counted =
          omega (
            arith,
            radios-count h'.slots h'.places h'.control.pool (cc i) (cc j),
            radios-count h.slots h.places h.control.pool (omega arith) (omega arith),
            w.weigh one,
            ap (λ (o : Opening). o.permits) e,
          );
      same = λ b.
          radios-weigh (λ r. bit (eqb b r)) h'.slots h'.places h'.control.pool
          ∙ w.weigh (λ r. bit (eqb b r))
          ∙ sym (radios-weigh (λ r. bit (eqb b r)) h.slots h.places h.control.pool)
          ∙ k.same b
          ∙ ap (λ (o : Opening). occurs b (radios_of o)) (sym e);
    }
  where
    sizes : {A : Type 0} (f : A → Bool) (l m : List A) {n : ℕ} → length (map f m) ≡ length (map f l)
        → length l ≡ n → length m ≡ n
    sizes f l m a b = sym (length-map m f) ∙ a ∙ length-map l f ∙ b

    i : length h'.slots ≡ PARTIES
    i = sizes (λ (s : PartySlot). has_radio s.phase) h.slots h'.slots (cc) k.slots

    j : length h'.places ≡ PLACES
    j = sizes (λ (s : PlaceSlot). is_permit s.place) h.places h'.places (cc) k.places

-- The tidying writes done over cancelled, and empty over done: no permit either way.
written_over : (l : List PlaceSlot) (t : ℕ) (a : PlaceSlot) {b : Place} → read_place l t ≡ b
    → is_permit a.place ≡ is_permit b → permits_at (write_seat l t a) ≡ permits_at l
written_over l t a e i =
    mapped-same l t (λ (x : PlaceSlot). is_permit x.place) a (i ∙ ap is_permit (sym e))

either : (b : Bool) (x y : Ring) (cs : List Bool) → (b ≡ true → permits_at x.places ≡ cs)
    → permits_at y.places ≡ cs → permits_at (cond b x y).places ≡ cs
either true x y cs f e = f refl
either false x y cs f e = e

skip-permits : (n : ℕ) (r : Ring) → permits_at (skip n r).places ≡ permits_at r.places
unfolding skip is_place_of
skip-permits zero r = refl
skip-permits (suc n) r =
    either (can_skip r) (skip n (skipped r)) r _
    (λ e. skip-permits n (skipped r)
    ∙ written_over r.places r.resumed _
    (place_of Place.Cancelled _ (second (ltb r.resumed (r.oldest + PLACES)) _ e)) refl)
    refl

retire-permits : (n : ℕ) (r : Ring) → permits_at (retire n r).places ≡ permits_at r.places
unfolding retire is_place_of
retire-permits zero r = refl
retire-permits (suc n) r =
    either (can_retire r) (retire n (retired r)) r _
    (λ e. retire-permits n (retired r)
    ∙ written_over r.places r.oldest empty_seat (place_of Place.Done _ e) refl)
    refl

tidied-permits : (h : Hub) → permits_at (tidied h).places ≡ permits_at h.places
unfolding tidied
tidied-permits h = retire-permits PLACES _ ∙ skip-permits PLACES (ring_of h)

tidied-slots : (h : Hub) → (tidied h).slots ≡ h.slots
unfolding tidied
tidied-slots h = refl

-- What a move leaves.
placed-permits : (h : Hub) (a : PlaceSlot) (f : Phase)
    → permits_at (placed h f a).places
    ≡ by_ticket (permits_at h.places) (λ t. set (permits_at h.places) (t % PLACES) (is_permit a.place)) f
placed-permits h a = phases-alike _ _ (λ t. simp write-mapped)

module _ (h : Hub) (c : Call) (named : h.control.opening.named ≡ true) (k : Kept h) where
  abbrev p : ℕ
  p = c.party

  sized : Sized (carriers h.slots) (permits_at h.places) h.control.pool
  sized =
      record {
        slots = length-map h.slots _ ∙ k.slots;
        places = length-map h.places _ ∙ k.places;
        hands = k.hands;
        laid = k.laid;
        store = k.store;
        few = omega (arith, radios-count h.slots h.places h.control.pool (omega arith) (omega arith));
      }

  -- The check before the call refuses, and moves nothing.
  checked-goes : (a b : Bool) (m : Move) → Goes h p named sized (look h p).slot.phase m
      → Goes h p named sized (look h p).slot.phase (checked a b m)
  unfolding checked moved
  checked-goes false b m g = unmoved
  checked-goes true false m g = unmoved
  checked-goes true true m g = g

  after : (m : Move) → Goes h p named sized (look h p).slot.phase m
      → Same (carriers h.slots) (permits_at h.places) h.control.pool
      (carriers (apply h (look h p) m).slots) (permits_at (apply h (look h p) m).places)
      (moved (printed (answer_of m)) p h.control.pool)
  unfolding apply seen_by write_slot
  after (Refuse r) g = g
  after (Tell y) g = g
  after (Act d) g = rw (tidied-slots, tidied-permits, map-set) g
  after (Put a d) g = rw (tidied-slots, tidied-permits, map-set, placed-permits) g
  after (Wake q x a d) g = rw (tidied-slots, tidied-permits, map-set, map-set, placed-permits) g

pub called-kept : (h : Hub) (c : Call) → h.control.opening.named ≡ true → Kept h → Kept (called h c).hub
unfolding pool_after seen_by
called-kept h c named k =
    let m = move_of h c in
    let v = look h c.party in
    kept_by h (called h c).hub k (kept-opening h v m)
    (subst
    (λ (b : Bool).
    Same (carriers h.slots) (permits_at h.places) h.control.pool (carriers (apply h v m).slots)
    (permits_at (apply h v m).places) (pool_after b (printed (answer_of m)) c.party h.control.pool))
    (sym named)
    (after h c named k m
    (checked-goes h c named k _ _ _
    (decide-goes h c.party named (sized h c named k) c.op _))))

-- At an opening nobody has a radio: all are stored, in the opening's order.
none-shown : {A B : Type 0} (f : B → A) (has : A → Bool) (x : B) → has (f x) ≡ false
    → (n : ℕ) (rs : List ℕ) → shown has (map f (replicate n x)) rs ≡ []
unfolding shown
none-shown f has x e zero rs = refl
none-shown f has x e (suc n) [] = refl
none-shown f has x e (suc n) (r ∷ rs) = if-false (has (f x)) _ _ e ∙ none-shown f has x e n rs

module _ (o : Opening) (few : o.permits ≤ STORE) where
  stored-only : radios_in (fresh o).slots (fresh o).places (fresh o).control.pool ≡ stored_in (fresh o).control.pool
  unfolding fresh radios_in is_one_of is_place_of
  stored-only =
      rw (
        none-shown (λ (s : PartySlot). s.phase) has_radio free_slot refl,
        none-shown (λ (s : PlaceSlot). s.place) is_permit empty_seat refl,
      )

  pub fresh_kept : Kept (fresh o)
  unfolding fresh radios_of
  fresh_kept =
      record {
        slots = length-replicate PARTIES free_slot;
        places = length-replicate PLACES empty_seat;
        hands = length-replicate {A = ℕ} PARTIES 0;
        laid = length-replicate {A = ℕ} PLACES 0;
        store = padded-length o.radios;
        few = few;
        counted =
            radios-count (fresh o).slots (fresh o).places (fresh o).control.pool refl refl
            ∙ sym (radios-weigh one (fresh o).slots (fresh o).places (fresh o).control.pool)
            ∙ ap (weight one) stored-only
            ∙ count-ring (fresh o).control.pool.store 0 o.permits;
        same = λ b.
            ap (occurs b)
            (stored-only ∙ ring-take (padded o.radios) 0 o.permits (padded-length o.radios) (omega arith));
      }
