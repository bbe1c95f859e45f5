-- Every record that a schedule reaches fits.
use Prim.Native.Nat.{ℕ, ◌+◌, ◌≤◌, ◌<◌}
use mathlib.Core.Path.{◌≡◌, refl, sym, ap, ap₂, subst, ◌∙◌}
use mathlib.Core.Bool.{Bool, true, false, cond, not, ◌||◌}
use mathlib.Core.List.{List, [], ◌∷◌, map}
use native.Mathlib.Omega.{arith}
use borrow.Author.Tests.{le-leb, ltb-true, ltb-false}
use lib.Dec.{ltb}
use Rattle.hub.specs.declared.record.Phase.{Phase}
use Rattle.hub.specs.declared.record.Phase.TheVariants.{ResumingAt}
use Rattle.hub.specs.declared.record.Place.{Place}
use Rattle.hub.specs.declared.record.Place.TheVariants.{Empty, Waiting as WaitedBy, Permit}
use Rattle.hub.specs.declared.record.Place.TheVariants.{Cancelled, Refused, Done}
use Rattle.hub.specs.Basics.{all_of, up_to32}
use Rattle.hub.specs.Fits.{place_listed}
use Rattle.hub.specs.Phases.{is_free, is_one_of, is_place_of, resumes}
use Rattle.hub.specs.Record.{PARTIES}
use Rattle.hub.specs.Ring.{PLACES}
use Rattle.hub.proofs.Laws.Bools.{both, first, passed}
use Rattle.hub.proofs.Laws.Lists.{weight-one}
use Rattle.hub.proofs.Laws.Phases.{each_of, phases-alike, places-alike, places_with}
use Rattle.hub.proofs.Laws.Ranges.{all_true}
use Rattle.hub.proofs.Invariant.Weights.{pick, one, resuming}
use Rattle.hub.proofs.Window.Fitting.{absent-free, numbers_fit, ticket-fits, up-to-32, waiter-stands, where-true}
use Rattle.latch.specs.declared.moves.LatchOp.{LatchOp}
use Rattle.latch.specs.declared.moves.LatchSight.{LatchSight}
use Rattle.latch.specs.declared.record.Latch.{Latch}
use Rattle.latch.specs.declared.record.LatchFigures.{LatchFigures}
use Rattle.latch.specs.Fits.{HUB_ONLY, figures_fit, ticket_fits, slot_fits, party_fits, place_fits, fits}
use Rattle.latch.specs.Ledger.{slot_in}
use Rattle.latch.specs.Look.{look, seen_by}
use Rattle.latch.specs.Moves.{Move}
use Rattle.latch.specs.Moves.{Refuse, Act, Put, Wake}
use Rattle.latch.specs.Queue.{Queue}
use Rattle.latch.specs.Queue as queue
use Rattle.latch.specs.Record.{free_slot, read_slot}
use Rattle.latch.specs.Table.{decide, step, step_in}
use Rattle.latch.specs.Table.{step_ticketed, resume_waiter}
use Rattle.latch.specs.Table.{step_resuming_at, step_cancelling, step_refusing}
use Rattle.latch.proofs.Laws.Slots.{read-phase}
use Rattle.latched.proofs.Invariant.Weights.{holding, left}
use Rattle.latched.proofs.Invariant.Rows.{Good, is_listed, rests_if}
use Rattle.latched.proofs.Invariant.Walk.{decide-good}
use Rattle.latched.proofs.Window.Shown.{Tracks, tracked, read_same, look-same}

-- A good move is one that the table lists.
good-listed : (o : LatchOp) (p : ℕ) (m : Queue) (f : Phase) (v : Move) → Good o p m f v → is_listed v ≡ true
good-listed o p m f (Refuse r) g = first (is_listed (Refuse r)) (rests_if o f) g
good-listed o p m f (Act c) g = refl
good-listed o p m f (Put a c) g = refl
good-listed o p m f (Wake q s a c) g = refl

-- Where the table has a row for a place, "a record that fits" lists it.
module _ (s : LatchSight) where
  resumed : (b : Bool) (q t : ℕ) → is_listed (resume_waiter b q t s) ≡ true
  unfolding resume_waiter
  resumed true q t = refl
  resumed false q t = refl

  handed : (t : ℕ) (a : Place) → is_listed (step_resuming_at t a s) ≡ place_listed (ResumingAt t) a
  unfolding step_resuming_at place_listed all_of is_one_of is_place_of
  handed t Empty = refl
  handed t (WaitedBy q) = resumed _ q t
  handed t Permit = refl
  handed t Cancelled = refl
  handed t Refused = refl
  handed t Done = refl

  -- The phases that act on a place; to the others every place is listed.
  abbrev ON_PLACE : List Phase
  ON_PLACE = Phase.Ticketed 0 ∷ Phase.TicketedMarked 0 ∷ Phase.Cancelling 0 ∷ Phase.Refusing 0 ∷ ResumingAt 0 ∷ []

  off-place : (a : Place) (f : Phase) → cond (is_one_of ON_PLACE f) true (place_listed f a) ≡ true
  unfolding place_listed all_of is_one_of
  off-place a = phases-alike (λ f. cond (is_one_of ON_PLACE f) true (place_listed f a)) (λ f. true) (λ t. refl)

  abbrev Tabled : Phase → Type 0
  Tabled f = is_listed (step_in f s) ≡ true → place_listed f s.seat.place ≡ true

  tabled : (f : Phase) (row : Place → Move)
      → ((q : ℕ) → map (λ a. is_listed (row a)) (places_with q) ≡ map (place_listed f) (places_with q))
      → is_listed (row s.seat.place) ≡ true → place_listed f s.seat.place ≡ true
  tabled f row z e = sym (places-alike (λ a. is_listed (row a)) (place_listed f) z s.seat.place) ∙ e

  listed-tabled : (f : Phase) → Tabled f
  unfolding step_in step_ticketed step_cancelling step_refusing place_listed all_of is_one_of is_place_of
  listed-tabled f = go (is_one_of ON_PLACE f) refl
    where
      go : (b : Bool) → is_one_of ON_PLACE f ≡ b → Tabled f
      go true i =
          each_of Tabled ON_PLACE
          (λ t. (
            tabled (Phase.Ticketed t) (λ a. step_ticketed (Phase.Waiting t) t a s) (λ q. refl),
            (
              tabled (Phase.TicketedMarked t) (λ a. step_ticketed (Phase.Aborting t) t a s) (λ q. refl),
              (
                tabled (Phase.Cancelling t) (λ a. step_cancelling t a s) (λ q. refl),
                (
                  tabled (Phase.Refusing t) (λ a. step_refusing t a s) (λ q. refl),
                  (λ e. sym (handed t s.seat.place) ∙ e, tt),
                ),
              ),
            ),
          ))
          f i
      go false i =
          λ e. ap (λ (b : Bool). cond b true (place_listed f s.seat.place)) (sym i) ∙ off-place s.seat.place f

-- Who does not hold in the count does not in the test.
not-held : (f : Phase) → holding f ≡ 0 → not (is_one_of HUB_ONLY f) ≡ true
unfolding pick
not-held f = go (is_one_of HUB_ONLY f)
  where
    go : (b : Bool) → ◌≡◌ {A = ℕ} (cond b 1 0) 0 → not b ≡ true
    go true e = let z : ⊥ = omega arith in absurd z
    go false e = refl

module _ (h : Latch) (m : Queue) (r : Tracks h m) where
  figures-fit : figures_fit h.parties h.figures h.oldest ≡ true
  unfolding figures_fit
  figures-fit =
      let few = r.inv.tickets.few in
      let same-n = r.shows.parties in
      ap (λ (f : LatchFigures). figures_fit h.parties f h.oldest) r.shows.figures
      ∙ passed _ _ (up-to-32 h.parties (omega arith) (omega arith))
      (passed _ _ (le-leb m.figures.count 200 r.inv.count)
      (passed _ _ (le-leb m.figures.waiters 32 r.inv.crowd) (numbers_fit (tracked r))))

  -- Nobody holds, and the hand-overs left are as many as all bear at most.
  slot-fits : (p : ℕ) → slot_fits (slot_in m.slots p) ≡ true
  unfolding slot_fits pick
  slot-fits p =
      both _ _ (not-held (slot_in m.slots p).phase (r.inv.unheld p))
      (where-true (resumes (slot_in m.slots p).phase) _ bears)
    where
      bears : resumes (slot_in m.slots p).phase ≡ true → up_to32 (slot_in m.slots p).left ≡ true
      bears i =
          let one : resuming (slot_in m.slots p).phase ≡ 1 = ap (λ (b : Bool). cond b 1 0) i in
          up-to-32 (slot_in m.slots p).left (omega (arith, r.inv.loaded p, one))
          (omega (arith, r.inv.borne, weight-one left free_slot refl m.slots p))

  -- The table lists the step of every party; those from n up are at rest.
  listed : (p : ℕ) (b : Bool) → ltb p m.parties ≡ b → is_listed (step (queue.look m p)) ≡ true
  unfolding decide step_in seen_by
  listed p true e =
      good-listed LatchOp.Step p m (queue.look m p).slot.phase (step (queue.look m p))
      (decide-good m p (ltb-true p m.parties e) r.inv LatchOp.Step)
  listed p false e =
      let free : (read_slot m.slots p).phase ≡ Phase.Free =
      read-phase m.slots p ∙ r.inv.tickets.beyond p (ltb-false p m.parties e) in
      subst (λ (f : Phase). is_listed (step_in f (queue.look m p)) ≡ true) (sym free) refl

  party-fits : (p : ℕ) → party_fits h p ≡ true
  unfolding party_fits ticket_fits seen_by read_slot
  party-fits p =
      both _ _
      (both _ _
      (both _ _
      (ap (λ (n : ℕ). ltb p n || is_free (read_slot h.slots p).phase) r.shows.parties
      ∙ absent-free (tracked r) p _ (read_same h m r p))
      (ap (λ l. slot_fits (slot_in l p)) r.shows.slots ∙ slot-fits p))
      (ap₂ (λ (f : LatchFigures). ticket_fits f h.oldest) r.shows.figures (read_same h m r p)
      ∙ ticket-fits (tracked r) p _ refl))
      (listed-tabled (look h p) _
      (ap (λ (s : LatchSight). is_listed (step s)) (look-same h m r p) ∙ listed p _ refl))

  place-fits : (t : ℕ) → h.oldest ≤ t → t < h.oldest + PLACES → place_fits h t ≡ true
  unfolding place_fits
  place-fits = waiter-stands (tracked r) (λ p. (read_slot h.slots p).phase) (read_same h m r)

  pub reached-fits : fits h ≡ true
  unfolding fits
  reached-fits =
      both _ _
      (both _ _ figures-fit (all_true (party_fits h) 0 PARTIES (λ p i j. party-fits p)))
      (all_true (place_fits h) h.oldest PLACES place-fits)
