-- The one walk of the step table: each answer says the way that its row sends a radio. A row that sends none
-- leaves everybody with a radio who had one, and every permit at its place.
use Prim.Native.Nat.{ℕ, ◌%◌, ◌<◌}
use mathlib.Core.Path.{◌≡◌, refl, sym, ap, subst, ◌∙◌}
use mathlib.Core.Bool.{Bool, true, false}
use mathlib.Core.List.{List}
use native.Mathlib.Omega.{arith}
use borrow.Author.Tests.{leb-true}
use lib.Dec.{leb}
use lib.ListN.{get_or, set, length-map, get_or-map}
use lib.Seq.{set-get_or}
use Rattle.hub.specs.declared.answers.Answer.{Answer}
use Rattle.hub.specs.Moves.{Move, Refuse, Tell, Act, Put, Wake}
use Rattle.hub.specs.declared.moves.Op.{Op}
use Rattle.hub.specs.declared.record.Hub.{Hub}
use Rattle.hub.specs.declared.record.PartySlot.{PartySlot}
use Rattle.hub.specs.declared.record.PlaceSlot.{PlaceSlot}
use Rattle.hub.specs.declared.record.Pool.{Pool}
use Rattle.hub.specs.declared.record.Phase.{Phase}
use Rattle.hub.specs.declared.record.Phase.TheVariants.{Free, Holding, Waiting, Acquiring}
use Rattle.hub.specs.declared.record.Phase.TheVariants.{Suspending, Ticketed, Aborting}
use Rattle.hub.specs.declared.record.Phase.TheVariants.{Cancelling, Refusing, Releasing}
use Rattle.hub.specs.declared.record.Phase.TheVariants.{Resuming, ResumingAt, Fetching, Storing}
use Rattle.hub.specs.declared.record.Phase.TheVariants.{AcquiringMarked, SuspendingMarked, TicketedMarked}
use Rattle.hub.specs.declared.record.Place.{Place}
use Rattle.hub.specs.declared.record.Place.TheVariants.{Empty, Waiting as WaitedBy, Permit}
use Rattle.hub.specs.declared.record.Place.TheVariants.{Cancelled, Refused, Done}
use Rattle.hub.specs.Answers.{printed}
use Rattle.hub.specs.Look.{look, seen_by}
use Rattle.hub.specs.Phases.{by_ticket, by_waiter, has_radio, is_free, is_holding, is_one_of, is_permit}
use Rattle.hub.specs.Phases.{is_place_of, is_waiting}
use Rattle.hub.specs.Radios.{moved}
use Rattle.hub.specs.Record.{PARTIES, empty_seat, free_slot, read_slot}
use Rattle.hub.specs.Ring.{PLACES, read_place, read_seat}
use Rattle.hub.specs.Table.{acquire, can_cancel, cancel, decide, given_up, release, row_in, step_in, tell_radio}
use Rattle.hub.specs.Table.{step_acquiring, step_suspending, step_ticketed, step_releasing}
use Rattle.hub.specs.Table.{step_resuming, resume_waiter, step_resuming_at, step_aborting}
use Rattle.hub.specs.Table.{step_cancelling, step_refusing, step_fetching, step_storing}
use Rattle.hub.specs.Table.{with_permit, without_permit}
use Rattle.hub.proofs.Laws.Table.{can-cancel}
use Rattle.hub.proofs.Laws.Phases.{one_of}
use Rattle.hub.proofs.Laws.Seats.{read_mapped}
use Rattle.hub.proofs.Radios.Ways.{Same, Sized, carriers, permits_at, unmoved, within}
use Rattle.hub.proofs.Radios.Ways.{fetched, stored, left, passed, found, dropped}

module _ (h : Hub) (p : ℕ) (named : h.control.opening.named ≡ true)
    (s : Sized (carriers h.slots) (permits_at h.places) h.control.pool) where
  abbrev bs : List Bool
  bs = carriers h.slots

  abbrev cs : List Bool
  cs = permits_at h.places

  abbrev phase : Phase
  phase = (read_slot h.slots p).phase

  abbrev After : List Bool → List Bool → Pool → Type 0
  After = Same bs cs h.control.pool

  -- What a move of the party has to show, where the places have their permits so once its place is written.
  abbrev GoesBy : (PlaceSlot → List Bool) → Move → Type 0
  GoesBy marks (Refuse r) = After bs cs (moved (printed (Answer.Refused r)) p h.control.pool)
  GoesBy marks (Tell y) = After bs cs (moved (printed y) p h.control.pool)
  GoesBy marks (Act c) =
      After (set bs p (has_radio c.slot.phase)) cs (moved (printed c.answer) p h.control.pool)
  GoesBy marks (Put a c) =
      After (set bs p (has_radio c.slot.phase)) (marks a) (moved (printed c.answer) p h.control.pool)
  GoesBy marks (Wake q x a c) =
      After (set (set bs q (has_radio x.phase)) p (has_radio c.slot.phase)) (marks a)
      (moved (printed c.answer) p h.control.pool)

  -- Its place is that of ticket t; of the ticket of its phase.
  abbrev GoesAt : ℕ → Move → Type 0
  GoesAt t = GoesBy (λ a. set cs (t % PLACES) (is_permit a.place))

  abbrev pub Goes : Phase → Move → Type 0
  Goes f = GoesBy (λ a. by_ticket cs (λ t. set cs (t % PLACES) (is_permit a.place)) f)

  -- What the slot of a party says of its radio; what a place says of a permit.
  radio-of : (w : ℕ) {f : Phase} → (read_slot h.slots w).phase ≡ f → get_or bs w false ≡ has_radio f
  unfolding is_one_of read_slot
  radio-of w e =
      get_or-map (λ (x : PartySlot). has_radio x.phase) h.slots w free_slot ∙ ap has_radio e

  there : (t : ℕ) {a : Place} → read_place h.places t ≡ a → get_or cs (t % PLACES) false ≡ is_permit a
  unfolding is_place_of
  there t e = read_mapped h.places t (λ (x : PlaceSlot). is_permit x.place) ∙ ap is_permit e

  -- Only a party with a slot is not free.
  party-in : (w : ℕ) {f : Phase} → (read_slot h.slots w).phase ≡ f → is_free f ≡ false → w < PARTIES
  unfolding is_one_of read_slot
  party-in w e i =
      let j = within h.slots w free_slot (λ z. (let y : ◌≡◌ {A = ℕ} 0 1 = cc in omega arith)) in
      omega (arith, length-map h.slots (λ (x : PartySlot). has_radio x.phase))

  -- The party has a radio as before; the place has a permit as before.
  party-still : {b : Bool} {cs' : List Bool} {q : Pool} → get_or bs p false ≡ b
      → After bs cs' q → After (set bs p b) cs' q
  party-still {cs' = cs'} {q = q} e =
      subst (λ (l : List Bool). After l cs' q) (sym (set-get_or bs p false) ∙ ap (set bs p) e)

  place_still : (t : ℕ) {c : Bool} {bs' : List Bool} {q : Pool} → get_or cs (t % PLACES) false ≡ c
      → After bs' cs q → After bs' (set cs (t % PLACES) c) q
  place_still t {bs' = bs'} {q = q} e =
      subst (λ (l : List Bool). After bs' l q)
      (sym (set-get_or cs (t % PLACES) false) ∙ ap (set cs (t % PLACES)) e)

  asked : (f x : Phase) → has_radio f ≡ false → has_radio x ≡ false → (z : Bool) → phase ≡ f
      → Goes f (step_acquiring x z (look h p))
  unfolding step_acquiring is_one_of moved seen_by
  asked f x i j true e =
      party-still (radio-of p e ∙ i ∙ sym (ap (λ n. has_radio (with_permit n)) named)) unmoved
  asked f x i j false e = party-still (radio-of p e ∙ i ∙ sym j) unmoved

  giving-back : (z : Bool) → phase ≡ Releasing → Goes Releasing (step_releasing z (look h p))
  unfolding step_releasing is_one_of moved seen_by
  giving-back true e = party-still (radio-of p e) unmoved
  giving-back false e =
      party-still (radio-of p e ∙ sym (ap (λ n. has_radio (without_permit n)) named)) unmoved

  giving-up : (t : ℕ) (z : Bool) → phase ≡ Aborting t → Goes (Aborting t) (step_aborting t z (look h p))
  unfolding step_aborting is_one_of moved seen_by
  giving-up t true e = party-still (radio-of p e) unmoved
  giving-up t false e = party-still (radio-of p e) unmoved

  fetching : (z : Bool) → leb 1 h.control.pool.stored ≡ z → phase ≡ Fetching
      → Goes Fetching (step_fetching z (look h p))
  unfolding step_fetching is_one_of moved seen_by
  fetching true i e =
      fetched bs cs h.control.pool s p (radio-of p e) (party-in p e refl) (leb-true 1 h.control.pool.stored i)
  fetching false i e = unmoved

  numbered : (f x : Phase) → has_radio f ≡ false → is_free f ≡ false → has_radio x ≡ false → (t : ℕ) (a : Place)
      → read_place h.places t ≡ a → phase ≡ f → GoesAt t (step_ticketed x t a (look h p))
  unfolding step_ticketed is_one_of is_place_of moved seen_by
  numbered f x n m l t Empty i e = party-still (radio-of p e ∙ n ∙ sym l) (place_still t (there t i) unmoved)
  numbered f x n m l t Permit i e =
      found bs cs h.control.pool s t (there t i) p (radio-of p e ∙ n) (party-in p e m)
  numbered f x n m l t (WaitedBy q) i e = unmoved
  numbered f x n m l t Cancelled i e = unmoved
  numbered f x n m l t Refused i e = unmoved
  numbered f x n m l t Done i e = unmoved

  cancelling : (t : ℕ) (a : Place) → read_place h.places t ≡ a → phase ≡ Cancelling t
      → Goes (Cancelling t) (step_cancelling t a (look h p))
  unfolding step_cancelling is_one_of is_place_of moved seen_by
  cancelling t (WaitedBy q) i e =
      party-still (radio-of p e) (place_still t (there t i) unmoved)
  cancelling t Permit i e =
      found bs cs h.control.pool s t (there t i) p (radio-of p e) (party-in p e refl)
  cancelling t Empty i e = unmoved
  cancelling t Cancelled i e = unmoved
  cancelling t Refused i e = unmoved
  cancelling t Done i e = unmoved

  refusing : (t : ℕ) (a : Place) → read_place h.places t ≡ a → phase ≡ Refusing t
      → Goes (Refusing t) (step_refusing t a (look h p))
  unfolding step_refusing is_one_of is_place_of moved seen_by
  refusing t (WaitedBy q) i e =
      party-still (radio-of p e) (place_still t (there t i) unmoved)
  refusing t Permit i e = party-still (radio-of p e) (dropped bs cs h.control.pool s t (there t i))
  refusing t Empty i e = unmoved
  refusing t Cancelled i e = unmoved
  refusing t Refused i e = unmoved
  refusing t Done i e = unmoved

  -- The waiter, if its phase is waiting, has a slot and no radio.
  handing-to : (t q : ℕ) (z : Bool) → read_place h.places t ≡ WaitedBy q
      → is_waiting (read_slot h.slots q).phase ≡ z → phase ≡ ResumingAt t
      → Goes (ResumingAt t) (resume_waiter z q t (look h p))
  unfolding resume_waiter is_one_of is_place_of moved seen_by
  handing-to t q true i w e =
      let x = one_of (Waiting 0) (read_slot h.slots q).phase w in
      place_still t (there t i)
      (passed bs cs h.control.pool s p (radio-of p e) q (radio-of q x) (party-in q x refl))
  handing-to t q false i w e = left bs cs h.control.pool s p (radio-of p e) t (there t i)

  handing : (t : ℕ) (a : Place) → read_place h.places t ≡ a → (look h p).seat.place ≡ a
      → phase ≡ ResumingAt t → Goes (ResumingAt t) (step_resuming_at t (is_waiting (look h p).waiter.phase) a (look h p))
  unfolding step_resuming_at is_one_of is_place_of moved seen_by
  handing t Empty i j e = left bs cs h.control.pool s p (radio-of p e) t (there t i)
  handing t (WaitedBy q) i j e =
      handing-to t q _ i
      (ap (λ (a : Place). is_waiting (by_waiter free_slot (read_slot h.slots) a).phase) (sym j)) e
  handing t Cancelled i j e = party-still (radio-of p e) (place_still t (there t i) unmoved)
  handing t Refused i j e =
      place_still t (there t i) (stored bs cs h.control.pool s p (radio-of p e))
  handing t Permit i j e = unmoved
  handing t Done i j e = unmoved

  -- The place that the party looks at is that of its ticket.
  seen : {f : Phase} → phase ≡ f
      → (by_ticket empty_seat (read_seat h.places) f).place ≡ (look h p).seat.place
  unfolding seen_by
  seen e = ap (λ (f : Phase). (by_ticket empty_seat (read_seat h.places) f).place) (sym e)

  step-goes : (f : Phase) → phase ≡ f → Goes f (step_in f (look h p))
  unfolding row_in step_suspending step_resuming step_storing is_one_of moved seen_by
  step-goes Free e = unmoved
  step-goes Holding e = unmoved
  step-goes (Waiting t) e = unmoved
  step-goes Acquiring e = asked Acquiring Suspending refl refl _ e
  step-goes Suspending e = party-still (radio-of p e) unmoved
  step-goes (Ticketed t) e = numbered (Ticketed t) (Waiting t) refl refl refl t _ (seen e) e
  step-goes (Aborting t) e = giving-up t _ e
  step-goes (Cancelling t) e = cancelling t _ (seen e) e
  step-goes (Refusing t) e = refusing t _ (seen e) e
  step-goes Releasing e = giving-back _ e
  step-goes Resuming e = party-still (radio-of p e) unmoved
  step-goes (ResumingAt t) e = handing t _ (seen e) refl e
  step-goes Fetching e = fetching _ refl e
  step-goes Storing e = stored bs cs h.control.pool s p (radio-of p e)
  step-goes AcquiringMarked e = asked AcquiringMarked SuspendingMarked refl refl _ e
  step-goes SuspendingMarked e = party-still (radio-of p e) unmoved
  step-goes (TicketedMarked t) e = numbered (TicketedMarked t) (Aborting t) refl refl refl t _ (seen e) e

  acquire-goes : (a b d : Bool) → is_free phase ≡ a → Goes phase (acquire a b d (look h p))
  unfolding acquire is_one_of moved seen_by
  acquire-goes false b d e = unmoved
  acquire-goes true true d e = unmoved
  acquire-goes true false true e = unmoved
  acquire-goes true false false e = party-still (radio-of p (one_of Free phase e)) unmoved

  no-radio : (f : Phase) → can_cancel f ≡ true → (has_radio f ≡ false) × (has_radio (given_up f) ≡ false)
  unfolding given_up is_one_of
  no-radio =
      can-cancel (λ f. (has_radio f ≡ false) × (has_radio (given_up f) ≡ false))
      (λ t. (refl, refl)) (refl, refl) (refl, refl) (λ t. (refl, refl))

  cancel-goes : (a b : Bool) → can_cancel phase ≡ a → Goes phase (cancel a b (given_up phase) (look h p))
  unfolding cancel moved seen_by
  cancel-goes false b e = unmoved
  cancel-goes true true e = unmoved
  cancel-goes true false e =
      let z = no-radio phase e in
      party-still (radio-of p refl ∙ z.0 ∙ sym z.1) unmoved

  release-goes : (a : Bool) → is_holding phase ≡ a → Goes phase (release a (look h p))
  unfolding release is_one_of moved seen_by
  release-goes false e = unmoved
  release-goes true e = party-still (radio-of p (one_of Holding phase e)) unmoved

  told : (a : Bool) → Goes phase (tell_radio a (look h p))
  unfolding tell_radio moved
  told true = unmoved
  told false = unmoved

  pub decide-goes : (o : Op) (full : Bool) → Goes phase (decide o full (look h p))
  unfolding decide seen_by
  decide-goes Op.Acquire full = acquire-goes _ _ full refl
  decide-goes Op.Step full = step-goes _ refl
  decide-goes Op.Cancel full = cancel-goes _ _ refl
  decide-goes Op.Release full = release-goes _ refl
  decide-goes Op.Radio full = told _
