-- Whatever a schedule reaches, once everybody is at rest all of `AtRest` is known of it.
use Prim.Native.Nat.{ℕ, zero, suc, ◌+◌, ◌%◌, ◌≤◌, ◌<◌}
use mathlib.Core.Path.{◌≡◌, refl, sym, ap, subst, ◌∙◌}
use mathlib.Core.Bool.{Bool, true, false, cond}
use mathlib.Core.List.{List, [], ◌∷◌, ◌++◌}
use mathlib.Core.Logic.{◌⊎◌, inl, inr}
use native.Mathlib.Decide.{dec_le}
use native.Mathlib.Omega.{arith}
use lib.IntN.{ℤ, pos, negsuc}
use lib.ListN.{get_or, length, length-map}
use Rattle.hub.specs.declared.moves.Call.{Call}
use Rattle.hub.specs.declared.moves.Sight.{Sight}
use Rattle.hub.specs.declared.opening.Opening.{Opening}
use Rattle.hub.specs.declared.record.Figures.{Figures}
use Rattle.hub.specs.declared.record.Hub.{Hub}
use Rattle.hub.specs.declared.record.PartySlot.{PartySlot}
use Rattle.hub.specs.declared.record.Phase.{Phase}
use Rattle.hub.specs.declared.record.Phase.TheVariants.{Free, Holding, Waiting, Resuming, ResumingAt}
use Rattle.hub.specs.declared.record.Phase.TheVariants.{Refusing, Suspending, SuspendingMarked}
use Rattle.hub.specs.declared.record.Place.{Place}
use Rattle.hub.specs.declared.record.Place.TheVariants.{Empty, Waiting as WaitedBy, Permit}
use Rattle.hub.specs.declared.record.Place.TheVariants.{Cancelled, Refused, Done}
use Rattle.hub.specs.declared.record.PlaceSlot.{PlaceSlot}
use Rattle.hub.specs.Basics.{bit, count, weight}
use Rattle.hub.specs.Calls.{apply, called, placed, ring_of, tidied}
use Rattle.hub.specs.Calm.{rests}
use Rattle.hub.specs.Demand3.{ReachedFits}
use Rattle.hub.specs.Fits.{fits}
use Rattle.hub.specs.Ledger.{phase_in}
use Rattle.hub.specs.Moves.{Move, Refuse, Tell, Act, Put, Wake}
use Rattle.hub.specs.Opening.{fresh, opening}
use Rattle.hub.specs.Phases.{RESTING, at_rest, has_radio, is_cancelled, is_done, is_holding, is_one_of, is_place_of, is_waiting, ticket_of}
use Rattle.hub.specs.Queue.{Queue, phases, places}
use Rattle.hub.specs.Record.{phases_of, places_of, read_slot}
use Rattle.hub.specs.Ring.{PLACES, read_place, write_seat}
use Rattle.hub.specs.Schedule.{run}
use Rattle.hub.proofs.Demand3.{every-record-fits, ring-count, schedule, start}
use Rattle.hub.proofs.Invariant.Held.{held-most}
use Rattle.hub.proofs.Invariant.Keep.{Inv, permits}
use Rattle.hub.proofs.Invariant.Rest.{Settled, idle, no-permits, rest-settled, standing}
use Rattle.hub.proofs.Invariant.Tickets.{mine, resumed-most}
use Rattle.hub.proofs.Invariant.Weights.{down, hand, holding, least, live, lt-le, lt_no, lt_yes, most, one}
use Rattle.hub.proofs.Invariant.Weights.{own, permit_cell, pick, refused_cell, refusing, resuming, same}
use Rattle.hub.proofs.Invariant.Weights.{same-eq, same_self, served, spent, stage, stage-own, stand-own}
use Rattle.hub.proofs.Invariant.Weights.{TICKETS, cell_sum, sum, suspending, up}
use Rattle.hub.proofs.Laws.Lists.{weight-le, weight-one, weight-scale}
use Rattle.hub.proofs.Laws.Phases.{by-ticket, each_of, ticketed, waiter_of}
use Rattle.hub.proofs.Laws.Seats.{fresh-seat, read_mapped, written-size}
use Rattle.hub.proofs.Window.Tracked.{has-place, high, low}
use Rattle.hub.proofs.Window.Shown.{Reached, tracked, read_same}
use Rattle.operations.specs.AtRest.{OnRest}
use Rattle.operations.proofs.Rest.{AtRest}
use Rattle.operations.proofs.Ring.{Tidy, reclaimed-tidy}

-- Every record reached is tidy: an opening is, and whatever is not left as it was ends with the tidying.
module _ (h : Hub) (s : Sight) (e : Tidy (ring_of h)) where
  placed-size : (f : Phase) (a : PlaceSlot) → length (placed h f a).places ≡ PLACES
  placed-size f a =
      ap length (by-ticket h.places (λ t. write_seat h.places t a) f) ∙ go (ticketed f)
    where
      go : (b : Bool) → length (cond b (write_seat h.places (ticket_of f) a) h.places) ≡ PLACES
      go true = written-size h.places e.size (ticket_of f) a
      go false = e.size

  applied-tidy : (m : Move) → Tidy (ring_of (apply h s m))
  unfolding apply tidied
  applied-tidy (Refuse r) = e
  applied-tidy (Tell y) = e
  applied-tidy (Act c) = reclaimed-tidy _ e.size
  applied-tidy (Put a c) = reclaimed-tidy _ (placed-size s.slot.phase a)
  applied-tidy (Wake q x a c) = reclaimed-tidy _ (placed-size s.slot.phase a)

run-tidy : (h : Hub) (cs : List Call) → Tidy (ring_of h) → Tidy (ring_of (run h cs))
unfolding run
run-tidy h [] e = e
run-tidy h (c ∷ cs) e = run-tidy (called h c).hub cs (applied-tidy h _ e _)

fresh-tidy : (o : Opening) → Tidy (ring_of (fresh o))
unfolding fresh is_place_of
fresh-tidy o =
    record {
      size = refl;
      unskipped = ap (λ (s : PlaceSlot). is_cancelled s.place) (fresh-seat 0);
      unretired = ap (λ (s : PlaceSlot). is_done s.place) (fresh-seat 0);
    }

-- Calls after calls.
pub run_more : (h : Hub) (cs ds : List Call) → run (run h cs) ds ≡ run h (cs ++ ds)
unfolding run
run_more h [] ds = refl
run_more h (c ∷ cs) ds = run_more (called h c).hub cs ds

-- A weight that is there is somewhere; and where it is at most 1, at one place alone.
module _ {A : Type 0} (f : A → ℕ) (d : A) where
  pub weight-some : (l : List A) → 1 ≤ weight f l → (i : ℕ) × (1 ≤ f (get_or l i d))
  unfolding weight
  weight-some [] e = let z : ⊥ = omega arith in absurd z
  weight-some (x ∷ l) e = go (dec_le 1 (f x)) (weight-some l)
    where
      go : Dec (1 ≤ f x) → (1 ≤ weight f l → (i : ℕ) × (1 ≤ f (get_or l i d)))
          → (i : ℕ) × (1 ≤ f (get_or (x ∷ l) i d))
      go (yes z) ih = (0, z)
      go (no z) ih = let y = ih (omega arith) in (suc y.0, y.1)

  weight-only : f d ≡ 0 → (l : List A) (i j : ℕ) → weight f l ≤ 1 → 1 ≤ f (get_or l i d)
      → 1 ≤ f (get_or l j d) → i ≡ j
  unfolding weight
  weight-only z [] i j s a b = let w : ⊥ = omega arith in absurd w
  weight-only z (x ∷ l) zero zero s a b = refl
  weight-only z (x ∷ l) zero (suc j) s a b =
      let w : ⊥ = omega (arith, weight-one f d z l j) in absurd w
  weight-only z (x ∷ l) (suc i) zero s a b =
      let w : ⊥ = omega (arith, weight-one f d z l i) in absurd w
  weight-only z (x ∷ l) (suc i) (suc j) s a b = ap suc (weight-only z l i j (omega arith) a b)

-- What holds of each of the three phases at rest.
pub resting : (P : Phase → Type 0) → P Free → P Holding → ((t : ℕ) → P (Waiting t))
    → (f : Phase) → at_rest f ≡ true → P f
resting P a b c = each_of P RESTING (λ t. (a, (b, (c t, tt))))

-- Whoever owns a ticket and is at rest waits with it.
owner-waits : (t : ℕ) (f : Phase) → at_rest f ≡ true → 1 ≤ own t f → f ≡ Waiting t
unfolding pick is_one_of
owner-waits t =
    resting (λ f. 1 ≤ own t f → f ≡ Waiting t) (λ i. (let z : ⊥ = omega arith in absurd z))
    (λ i. (let z : ⊥ = omega arith in absurd z)) (λ u i. ap Waiting (same-eq u t (omega arith)))

-- What a cell has to be.
waited-cell : (a : Place) → 3 ≤ most a → a ≡ WaitedBy (waiter_of a)
waited-cell Empty i = let z : ⊥ = omega arith in absurd z
waited-cell (WaitedBy q) i = refl
waited-cell Permit i = let z : ⊥ = omega arith in absurd z
waited-cell Cancelled i = let z : ⊥ = omega arith in absurd z
waited-cell Refused i = let z : ⊥ = omega arith in absurd z
waited-cell Done i = let z : ⊥ = omega arith in absurd z

empty-cell : (a : Place) → spent a + served a + least a ≡ 0 → a ≡ Empty
unfolding is_place_of
empty-cell Empty i = refl
empty-cell (WaitedBy q) i = let z : ⊥ = omega arith in absurd z
empty-cell Permit i = let z : ⊥ = omega arith in absurd z
empty-cell Cancelled i = let z : ⊥ = omega arith in absurd z
empty-cell Refused i = let z : ⊥ = omega arith in absurd z
empty-cell Done i = let z : ⊥ = omega arith in absurd z

done-cell : (a : Place) → 1 ≤ served a → permit_cell a ≡ 0 → a ≡ Done
unfolding is_place_of
done-cell Empty i j = let z : ⊥ = omega arith in absurd z
done-cell (WaitedBy q) i j = let z : ⊥ = omega arith in absurd z
done-cell Permit i j = let z : ⊥ = omega arith in absurd z
done-cell Cancelled i j = let z : ⊥ = omega arith in absurd z
done-cell Refused i j = let z : ⊥ = omega arith in absurd z
done-cell Done i j = refl

cancelled-cell : (a : Place) → 1 ≤ spent a → served a ≡ 0 → refused_cell a ≡ 0 → a ≡ Cancelled
unfolding is_place_of
cancelled-cell Empty i j k = let z : ⊥ = omega arith in absurd z
cancelled-cell (WaitedBy q) i j k = let z : ⊥ = omega arith in absurd z
cancelled-cell Permit i j k = let z : ⊥ = omega arith in absurd z
cancelled-cell Cancelled i j k = refl
cancelled-cell Refused i j k = let z : ⊥ = omega arith in absurd z
cancelled-cell Done i j k = let z : ⊥ = omega arith in absurd z

module _ (k : ℕ) (h : Hub) (m : Queue) (r : Reached k h m) (tidy : Tidy (ring_of h))
    (calm : (p : ℕ) → rests h p ≡ true) where
  abbrev inv : Inv k m
  inv = r.tracks.inv

  abbrev issued : ℕ
  issued = m.figures.issued

  abbrev resumed : ℕ
  resumed = m.figures.resumed

  at-ease : (p : ℕ) → at_rest (phase_in (phases m) p) ≡ true
  at-ease p = ap at_rest (sym (read_same k h m r.tracks p)) ∙ calm p

  rest : Settled (phases m)
  rest p = rest-settled (phase_in (phases m) p) (at-ease p)

  -- the figures of both
  fig : {A : Type 0} (w : Figures → A) → w h.control.figures ≡ w m.figures
  fig w = ap w r.tracks.shows.figures

  -- Nobody brings a permit, refuses one, or will draw a ticket.
  no-resuming : sum resuming m ≡ 0
  no-resuming = idle inv.tickets rest (Resuming ∷ ResumingAt 0 ∷ []) one refl

  no-refusing : sum refusing m ≡ 0
  no-refusing = idle inv.tickets rest (Refusing 0 ∷ []) one refl

  no-suspending : sum suspending m ≡ 0
  no-suspending = idle inv.tickets rest (Suspending ∷ SuspendingMarked ∷ []) one refl

  no-hands : (t : ℕ) → sum (hand t) m ≡ 0
  no-hands t = idle inv.tickets rest (ResumingAt 0 ∷ []) (λ u. same u t) refl

  permits-none : cell_sum permit_cell m ≡ 0
  permits-none = no-permits inv.tickets rest

  -- Nor was one refused that is still to come.
  refused_none : cell_sum refused_cell m ≡ 0
  refused_none = go m.figures.counter refl
    where
      go : (c : ℤ) → m.figures.counter ≡ c → cell_sum refused_cell m ≡ 0
      go (pos n) e =
          omega (
            arith,
            inv.tickets.balance,
            no-resuming,
            no-refusing,
            permits-none,
            ap down e,
          )
      go (negsuc n) e =
          omega (
            arith,
            permits k m inv,
            held-most k m inv,
            no-resuming,
            no-refusing,
            permits-none,
            ap up e,
          )

  held : sum holding m + up m.figures.counter ≡ k
  held = omega (arith, permits k m inv, no-resuming, no-refusing, permits-none, refused_none)

  waiting : sum live m ≡ down m.figures.counter
  waiting =
      omega (arith, inv.tickets.balance, no-resuming, no-refusing, no-suspending, permits-none, refused_none)

  drawn : resumed ≤ issued
  drawn = omega (arith, resumed-most inv.tickets, no-suspending)

  -- So no place holds or refuses one.
  no_place : (w : Place → ℕ) → w Empty ≡ 0 → w Done ≡ 0 → cell_sum w m ≡ 0 → (t : ℕ)
      → h.control.oldest ≤ t → t < h.control.oldest + PLACES → w (places m t) ≡ 0
  no_place w x y z t a b =
      omega (
        arith,
        ring-count k h m r.tracks w x y,
        weight-one w Empty x (places_of h.places) (t % PLACES),
        ap w (read_mapped h.places t (λ (s : PlaceSlot). s.place)),
        ap (λ (s : PlaceSlot). w s.place) (r.tracks.shows.window.within t a b),
      )

  -- A place is a cell of the queue.
  place-cell : (t : ℕ) (a : Place) → h.control.oldest ≤ t → t < h.control.oldest + PLACES → places m t ≡ a
      → read_place h.places t ≡ a
  place-cell t a i j e =
      ap (λ (s : PlaceSlot). s.place) (sym (r.tracks.shows.window.within t i j)) ∙ e

  oldest : h.control.oldest ≡ resumed
  unfolding is_place_of
  oldest = go (dec_le resumed h.control.oldest)
    where
      go : Dec (resumed ≤ h.control.oldest) → h.control.oldest ≡ resumed
      go (yes i) = omega (arith, low (tracked r.tracks))
      go (no i) =
          let c = done-cell (places m h.control.oldest)
          (omega (
            arith,
            (inv.tickets.at h.control.oldest).handed,
            no-hands h.control.oldest,
            lt_yes h.control.oldest resumed (omega arith),
          ))
          (no_place permit_cell refl refl permits-none h.control.oldest (omega arith) (omega arith)) in
          let y : true ≡ false =
          sym (ap is_done (place-cell h.control.oldest Done (omega arith) (omega arith) c)) ∙ tidy.unretired in
          let z : ◌≡◌ {A = ℕ} 0 1 = cc in let w : ⊥ = omega arith in absurd w

  -- The party that waits with ticket t, and its place.
  waits : (p t : ℕ) → phase_in (phases m) p ≡ Waiting t
      → (places m t ≡ WaitedBy p) × (resumed ≤ t) × (t < issued) × (h.control.oldest ≤ t) × (t < h.control.oldest + PLACES)
  unfolding pick is_one_of
  waits p t e = (
    cell ∙ ap WaitedBy same-party,
    standing inv.tickets rest p t e,
    stood.1,
    place.0,
    place.1,
  )
    where
      owns : 1 ≤ own t (phase_in (phases m) p)
      owns = omega (arith, ap (own t) e, same_self t)

      stood : (weight (stage t) (phases m) ≡ stage t (Waiting t)) × (t < issued) × (t < TICKETS)
      stood = mine inv.tickets p t (Waiting t) e (omega (arith, same_self t))

      place : (h.control.oldest ≤ t) × (t < h.control.oldest + PLACES)
      place = has-place (tracked r.tracks) p t (omega (arith, owns))

      q : ℕ
      q = waiter_of (places m t)

      cell : places m t ≡ WaitedBy q
      cell = waited-cell (places m t) (omega (arith, stood.0, same_self t, (inv.tickets.at t).high))

      same-party : q ≡ p
      same-party =
          weight-only (own t) Free refl (phases m) q p
          (omega (arith, (inv.tickets.at t).owned, lt-le t issued))
          (omega (arith, inv.tickets.named t q cell, stand-own t (phase_in (phases m) q))) owns

  -- A ticket of the line has an owner, who waits, or is cancelled.
  line : (t : ℕ) → resumed ≤ t → t < issued
      → (places m t ≡ Cancelled) ⊎ ((p : ℕ) × (phase_in (phases m) p ≡ Waiting t))
  line t a b = go (dec_le 1 (sum (own t) m))
    where
      below : t < h.control.oldest + PLACES
      below = omega (arith, high (tracked r.tracks))

      go : Dec (1 ≤ sum (own t) m)
          → (places m t ≡ Cancelled) ⊎ ((p : ℕ) × (phase_in (phases m) p ≡ Waiting t))
      go (yes i) =
          let p = weight-some (own t) Free (phases m) i in
          inr (p.0, owner-waits t (phase_in (phases m) p.0) (at-ease p.0) p.1)
      go (no i) =
          inl (cancelled-cell (places m t)
          (omega (arith, (inv.tickets.at t).owned, lt_yes t issued b))
          (omega (arith, (inv.tickets.at t).handed, lt_no t resumed a))
          (unfold is_place_of in no_place refused_cell refl refl refused_none t (omega (arith, oldest)) below))

  spare : places m issued ≡ Empty
  spare =
      empty-cell (places m issued)
      (omega (
        arith,
        (inv.tickets.at issued).owned,
        (inv.tickets.at issued).handed,
        (inv.tickets.at issued).low,
        lt_no issued issued (omega arith),
        lt_no issued resumed drawn,
        weight-scale 1 3 (stage issued) (own issued) Free (phases m)
            (λ j i. omega (arith, stage-own issued (phase_in (phases m) j))),
      ))

  -- Weights that agree on the three phases at rest sum up to the same.
  sum_alike : (w v : Phase → ℕ) → w Free ≡ v Free → w Holding ≡ v Holding
      → ((t : ℕ) → w (Waiting t) ≡ v (Waiting t))
      → weight w (phases_of h.slots) ≡ sum v m
  sum_alike w v a b c =
      omega (
        arith,
        ap (λ (l : List PartySlot). weight w (phases_of l)) r.tracks.shows.slots,
        weight-le w v Free (phases m) (λ j i. omega (arith, each j)),
        weight-le v w Free (phases m) (λ j i. omega (arith, each j)),
      )
    where
      each : (j : ℕ) → w (phase_in (phases m) j) ≡ v (phase_in (phases m) j)
      each j = resting (λ f. w f ≡ v f) a b c (phase_in (phases m) j) (at-ease j)

  holders : count is_holding (phases_of h.slots) ≡ sum holding m
  unfolding pick is_one_of
  holders = sum_alike (λ f. bit (is_holding f)) holding refl refl (λ t. refl)

  waiters : count is_waiting (phases_of h.slots) ≡ sum live m
  unfolding pick is_one_of
  waiters = sum_alike (λ f. bit (is_waiting f)) live refl refl (λ t. refl)

  radios : count has_radio (phases_of h.slots) ≡ sum holding m
  unfolding pick is_one_of
  radios = sum_alike (λ f. bit (has_radio f)) holding refl refl (λ t. refl)

  stored : h.control.opening.named ≡ true → h.control.pool.stored ≡ up h.control.figures.counter
  unfolding is_place_of
  stored e =
      omega (
        arith,
        (r.radios e).counted,
        r.tracks.permits,
        radios,
        held,
        ring-count k h m r.tracks permit_cell refl refl,
        permits-none,
        fig (λ f. up f.counter),
      )

  -- As the record shows it.
  shown : (p : ℕ) (f : Phase) → (read_slot h.slots p).phase ≡ f → phase_in (phases m) p ≡ f
  shown p f e = sym (read_same k h m r.tracks p) ∙ e

  pub all-at-rest : ((cs : List Call) → fits (run h cs) ≡ true) → AtRest h
  all-at-rest fit =
      record {
        calm = calm;
        fit = fit;
        few = omega (arith, inv.tickets.few, ap (λ (o : Opening). o.parties) r.tracks.shows.opening);
        beyond = λ p i.
            read_same k h m r.tracks p
            ∙ inv.tickets.beyond p
            (omega (arith, ap (λ (o : Opening). o.parties) r.tracks.shows.opening));
        slots =
            ap length r.tracks.shows.slots
            ∙ sym (length-map m.slots (λ (s : PartySlot). s.phase)) ∙ inv.tickets.size;
        places = tidy.size;
        unskipped = tidy.unskipped;
        unretired = tidy.unretired;
        oldest = oldest ∙ sym (fig (λ f. f.resumed));
        drawn = omega (arith, drawn, fig (λ f. f.resumed), fig (λ f. f.issued));
        room = omega (arith, high (tracked r.tracks), fig (λ f. f.issued));
        waits = λ p t e. placed-waits p t (waits p t (shown p (Waiting t) e));
        line = λ t a b.
            in-line t (omega (arith, fig (λ f. f.resumed))) (omega (arith, fig (λ f. f.issued)));
        spare = λ i.
            ap (read_place h.places) (fig (λ f. f.issued))
            ∙ place-cell issued Empty (omega (arith, low (tracked r.tracks)))
            (omega (arith, fig (λ f. f.issued))) spare;
        holders = omega (arith, holders, held, r.tracks.permits, fig (λ f. up f.counter));
        waiters = omega (arith, waiters, waiting, fig (λ f. down f.counter));
        stored = stored;
      }
    where
      placed-waits : (p t : ℕ)
          → (places m t ≡ WaitedBy p) × (resumed ≤ t) × (t < issued) × (h.control.oldest ≤ t) × (t < h.control.oldest + PLACES)
          → (read_place h.places t ≡ WaitedBy p) × (h.control.figures.resumed ≤ t) × (t < h.control.figures.issued)
      placed-waits p t w = (
        place-cell t (WaitedBy p) w.3 w.4 w.0,
        omega (arith, w.1, fig (λ f. f.resumed)),
        omega (arith, w.2, fig (λ f. f.issued)),
      )

      in-line : (t : ℕ) → resumed ≤ t → t < issued
          → (read_place h.places t ≡ Cancelled)
          ⊎ ((p : ℕ) × ((read_slot h.slots p).phase ≡ Waiting t))
      in-line t a b = go (line t a b)
        where
          go : (places m t ≡ Cancelled) ⊎ ((p : ℕ) × (phase_in (phases m) p ≡ Waiting t))
              → (read_place h.places t ≡ Cancelled)
              ⊎ ((p : ℕ) × ((read_slot h.slots p).phase ≡ Waiting t))
          go (inl e) =
              inl (place-cell t Cancelled (omega (arith, oldest)) (omega (arith, high (tracked r.tracks))) e)
          go (inr p) = inr (p.0, read_same k h m r.tracks p.0 ∙ p.1)

pub at_rest_lem : OnRest AtRest
unfolding ReachedFits
at_rest_lem o e cs calm =
    let x = schedule o e cs in
    all-at-rest o.permits (run (opening o).hub cs) x.queue x.reached
    (run-tidy (opening o).hub cs
    (subst (λ (h : Hub). Tidy (ring_of h)) (sym (start o e).hub) (fresh-tidy o)))
    calm (λ ds. ap fits (run_more (opening o).hub cs ds) ∙ every-record-fits o e (cs ++ ds))
