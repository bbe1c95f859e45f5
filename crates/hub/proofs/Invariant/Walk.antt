-- The one walk of the step table: each row is good. So are the other calls.
use Prim.Native.Nat.{ℕ, ◌+◌, ◌*◌, ◌≤◌, ◌<◌}
use mathlib.Core.Path.{◌≡◌, refl, sym, ap, subst, ◌∙◌}
use mathlib.Core.Bool.{Bool, true, false}
use mathlib.Core.List.{List, [], ◌∷◌}
use mathlib.Core.Logic.{◌≢◌}
use native.Mathlib.Omega.{arith}
use borrow.Author.Tests.{leb-false}
use lib.Dec.{leb}
use lib.ListN.{set}
use lib.Seq.{set-set, set_comm}
use Rattle.hub.specs.declared.moves.Op.{Op}
use Rattle.hub.specs.declared.moves.Op.TheVariants.{Acquire, Step, Cancel, Release, Radio}
use Rattle.hub.specs.declared.moves.Sight.{Sight}
use Rattle.hub.specs.declared.record.PartySlot.{PartySlot}
use Rattle.hub.specs.declared.record.Phase.{Phase}
use Rattle.hub.specs.declared.record.Phase.TheVariants.{Free, Holding, Waiting, Acquiring}
use Rattle.hub.specs.declared.record.Phase.TheVariants.{Suspending, Ticketed, Aborting}
use Rattle.hub.specs.declared.record.Phase.TheVariants.{Cancelling, Refusing, Releasing}
use Rattle.hub.specs.declared.record.Phase.TheVariants.{Resuming, ResumingAt, Fetching, Storing}
use Rattle.hub.specs.declared.record.Phase.TheVariants.{AcquiringMarked, SuspendingMarked, TicketedMarked}
use Rattle.hub.specs.declared.record.Place.{Place}
use Rattle.hub.specs.declared.record.Place.TheVariants.{Empty, Waiting as WaitedBy, Permit}
use Rattle.hub.specs.declared.record.Place.TheVariants.{Cancelled, Refused, Done}
use Rattle.hub.specs.declared.record.PlaceSlot.{PlaceSlot}
use Rattle.hub.specs.Basics.{bit}
use Rattle.hub.specs.Demand3.{AllBelow}
use Rattle.hub.specs.Ledger.{phase_in, phase_after, phases_after, counter_after, served_after}
use Rattle.hub.specs.Look.{seen_by, with_named}
use Rattle.hub.specs.Phases.{by_ticket, by_waiter, is_one_of, is_place_of, is_free, is_holding}
use Rattle.hub.specs.Phases.{is_waiting, ticket_of}
use Rattle.hub.specs.Queue.{Queue, look, phases, places, with_parts, write}
use Rattle.hub.specs.Record.{MAX_BEGUN, empty_seat, free_slot, read_slot, with_phase, with_place, write_slot}
use Rattle.hub.specs.Table.{above_zero, below_zero, acquire, can_cancel, cancel, given_up, release, decide}
use Rattle.hub.specs.Table.{row_in, step_in}
use Rattle.hub.specs.Table.{step_acquiring, step_suspending, step_ticketed, step_releasing}
use Rattle.hub.specs.Table.{step_resuming, resume_waiter, step_resuming_at, step_aborting}
use Rattle.hub.specs.Table.{step_cancelling, step_refusing, step_fetching, step_storing, tell_radio}
use Rattle.hub.proofs.Laws.Lists.{weight-scale}
use Rattle.hub.proofs.Laws.Phases.{one_of}
use Rattle.hub.proofs.Laws.Slots.{read-phase, write-phase}
use Rattle.hub.proofs.Laws.Table.{can-cancel}
use Rattle.hub.proofs.Invariant.Weights.{same, same_self, same-eq, lt_yes, lt_no, lt-le}
use Rattle.hub.proofs.Invariant.Weights.{lt-suc, took-above, took-below, gave-above}
use Rattle.hub.proofs.Invariant.Weights.{gave-below, pick, own, hand, stand, stand-own, stage, stage-waiting}
use Rattle.hub.proofs.Invariant.Weights.{holding, drawing, permit_cell, refused_cell, least}
use Rattle.hub.proofs.Invariant.Weights.{most, sum, cell_sum, TICKETS, stage-own, least-le}
use Rattle.hub.proofs.Invariant.Tickets.{AtIn, Names, one_in, exact, hand-below, permit-below}
use Rattle.hub.proofs.Invariant.Tickets.{near, party-in, inside, mine, here}
use Rattle.hub.proofs.Invariant.Keep.{Inv, ShiftIn, keep}
use Rattle.hub.proofs.Invariant.Potential.{to_calm}
use Rattle.hub.proofs.Invariant.Rows.{Good, set-in, write-twice, shift-place, shift-phase, still-row}
use Rattle.hub.proofs.Invariant.Rows.{place-row, phase-row, tell-row, names-kept}

pub all_more : (d d' : ℕ) → d ≤ d' → (xs : List ℕ) → AllBelow d xs → AllBelow d' xs
unfolding AllBelow
all_more d d' i [] a = tt
all_more d d' i (x ∷ xs) a = (omega (arith, a.0), all_more d d' i xs a.1)

names_same : (p t : ℕ) (x : Phase) (a : Place) → stand t x ≡ 1 → Names p t x a a
names_same p t x Empty o = tt
names_same p t x (WaitedBy q) o = (λ z. o, λ z. refl)
names_same p t x Permit o = tt
names_same p t x Cancelled o = tt
names_same p t x Refused o = tt
names_same p t x Done o = tt

module _ (k : ℕ) (m : Queue) (p : ℕ) (l : p < m.opening.parties) (inv : Inv k m) where
  abbrev issued : ℕ
  issued = m.figures.issued

  abbrev resumed : ℕ
  resumed = m.figures.resumed

  -- What the party sees, had the hub radios or not.
  abbrev seeing : Bool → Sight
  seeing v = with_named v (look m p)

  -- Rows on the counter alone. The ticket next issued stands for all: nothing happens to it.
  asked : (u v : Bool) → above_zero m.figures.counter ≡ u → m.opening.named ≡ v
      → phase_in (phases m) p ≡ Acquiring
      → Good k Step p m Acquiring (step_acquiring Suspending u (seeing v))
  unfolding step_acquiring pick is_one_of is_place_of seen_by phase_after phases_after counter_after served_after
  asked true true e n f =
      phase-row k m p l inv _ issued f
      (omega (arith, inv.tickets.at issued, took-above m.figures.counter e, ap bit n))
      (omega (arith, took-above m.figures.counter e))
      (names-kept k m p l inv issued _ Fetching f (omega arith))
      (omega arith) (refl, rw n, refl, refl) (λ xs a. a)
  asked true false e n f =
      phase-row k m p l inv _ issued f
      (omega (arith, inv.tickets.at issued, took-above m.figures.counter e))
      (omega (arith, took-above m.figures.counter e))
      (names-kept k m p l inv issued _ Holding f (omega arith))
      (omega arith) (refl, rw n, refl, refl) (λ xs a. a)
  asked false v e n f =
      phase-row k m p l inv _ issued f
      (omega (arith, inv.tickets.at issued, took-below m.figures.counter e))
      (omega (arith, took-below m.figures.counter e))
      (names-kept k m p l inv issued _ Suspending f (omega arith))
      (omega arith) (refl, refl, refl, refl) (λ xs a. a)

  asked-marked : (u v : Bool) → above_zero m.figures.counter ≡ u → m.opening.named ≡ v
      → phase_in (phases m) p ≡ AcquiringMarked
      → Good k Step p m AcquiringMarked (step_acquiring SuspendingMarked u (seeing v))
  unfolding step_acquiring pick is_one_of is_place_of seen_by phase_after phases_after counter_after served_after
  asked-marked true true e n f =
      phase-row k m p l inv _ issued f
      (omega (arith, inv.tickets.at issued, took-above m.figures.counter e, ap bit n))
      (omega (arith, took-above m.figures.counter e))
      (names-kept k m p l inv issued _ Fetching f (omega arith))
      (omega arith) (refl, rw n, refl, refl) (λ xs a. a)
  asked-marked true false e n f =
      phase-row k m p l inv _ issued f
      (omega (arith, inv.tickets.at issued, took-above m.figures.counter e))
      (omega (arith, took-above m.figures.counter e))
      (names-kept k m p l inv issued _ Holding f (omega arith))
      (omega arith) (refl, rw n, refl, refl) (λ xs a. a)
  asked-marked false v e n f =
      phase-row k m p l inv _ issued f
      (omega (arith, inv.tickets.at issued, took-below m.figures.counter e))
      (omega (arith, took-below m.figures.counter e))
      (names-kept k m p l inv issued _ SuspendingMarked f (omega arith))
      (omega arith) (refl, refl, refl, refl) (λ xs a. a)

  giving-back : (u v : Bool) → below_zero m.figures.counter ≡ u → m.opening.named ≡ v
      → phase_in (phases m) p ≡ Releasing
      → Good k Step p m Releasing (step_releasing u (seeing v))
  unfolding step_releasing pick is_one_of is_place_of seen_by phase_after phases_after counter_after served_after
  giving-back true v e n f =
      phase-row k m p l inv _ issued f
      (omega (arith, inv.tickets.at issued, gave-below m.figures.counter e))
      (omega (arith, gave-below m.figures.counter e))
      (names-kept k m p l inv issued _ Resuming f (omega arith))
      (omega arith) (refl, refl, refl, refl) (λ xs a. a)
  giving-back false true e n f =
      phase-row k m p l inv _ issued f
      (omega (arith, inv.tickets.at issued, gave-above m.figures.counter e, ap bit n))
      (omega (arith, gave-above m.figures.counter e))
      (names-kept k m p l inv issued _ Storing f (omega arith))
      (omega arith) (refl, rw n, refl, refl) (λ xs a. a)
  giving-back false false e n f =
      phase-row k m p l inv _ issued f
      (omega (arith, inv.tickets.at issued, gave-above m.figures.counter e))
      (omega (arith, gave-above m.figures.counter e))
      (names-kept k m p l inv issued _ Free f (omega arith))
      (omega arith) (refl, rw n, refl, refl) (λ xs a. a)

  -- Rows on a radio: no permit moves.
  fetching : (u : Bool) → phase_in (phases m) p ≡ Fetching
      → Good k Step p m Fetching (step_fetching u (look m p))
  unfolding step_fetching pick is_one_of is_place_of seen_by phase_after phases_after counter_after served_after
  fetching true f =
      still-row k m p l inv _ f (λ t. refl) refl (omega arith) (refl, refl, refl, refl) (λ xs a. a)
  fetching false f = tell-row k m p l inv f (omega arith) (refl, refl, refl, refl) (λ xs a. a)

  -- A new ticket: nobody owned it, and its cell is empty or has a permit.
  fresh-cell : (least (places m issued) ≡ 0) × (1 ≤ most (places m issued))
      × (sum (stage issued) m ≡ 0)
  unfolding is_place_of
  fresh-cell = go (places m issued) (inv.tickets.at issued)
    where
      none : sum (stage issued) m ≤ 3 * sum (own issued) m
      none =
          omega (
            arith,
            weight-scale 1 3 (stage issued) (own issued) Free (phases m)
                (λ i j. omega (arith, stage-own issued (phase_in (phases m) i))),
          )

      go : (b : Place) → AtIn (phases m) issued resumed issued b
          → (least b ≡ 0) × (1 ≤ most b) × (sum (stage issued) m ≡ 0)
      go Empty a = omega (arith, none, lt_no issued issued (omega arith))
      go (WaitedBy q) a = omega (arith, none, lt_no issued issued (omega arith))
      go Permit a = omega (arith, none, lt_no issued issued (omega arith))
      go Cancelled a = omega (arith, none, lt_no issued issued (omega arith))
      go Refused a = omega (arith, none, lt_no issued issued (omega arith))
      go Done a = omega (arith, none, lt_no issued issued (omega arith))

  unnumbered : phase_in (phases m) p ≡ Suspending
      → Good k Step p m Suspending (step_suspending Ticketed (look m p))
  unfolding step_suspending pick is_one_of is_place_of seen_by phase_after phases_after counter_after served_after
  unnumbered f =
      phase-row k m p l inv _ issued f
      (omega (
        arith,
        same_self issued,
        inv.tickets.at issued,
        lt-suc issued issued,
        fresh-cell,
      ))
      (record {
        numbers = λ u z. (omega (arith, lt-suc u issued), refl);
        order = λ u j h. omega (arith, lt_yes u issued h);
      })
      (names-kept k m p l inv issued _ (Ticketed issued) f (omega arith))
      (omega arith) (refl, refl, refl, refl) (λ xs a. a)

  unnumbered-marked : phase_in (phases m) p ≡ SuspendingMarked
      → Good k Step p m SuspendingMarked (step_suspending TicketedMarked (look m p))
  unfolding step_suspending pick is_one_of is_place_of seen_by phase_after phases_after counter_after served_after
  unnumbered-marked f =
      phase-row k m p l inv _ issued f
      (omega (
        arith,
        same_self issued,
        inv.tickets.at issued,
        lt-suc issued issued,
        fresh-cell,
      ))
      (record {
        numbers = λ u z. (omega (arith, lt-suc u issued), refl);
        order = λ u j h. omega (arith, lt_yes u issued h);
      })
      (names-kept k m p l inv issued _ (TicketedMarked issued) f (omega arith))
      (omega arith) (refl, refl, refl, refl) (λ xs a. a)

  carrying : phase_in (phases m) p ≡ Resuming
      → Good k Step p m Resuming (step_resuming (look m p))
  unfolding step_resuming pick is_one_of is_place_of seen_by phase_after phases_after counter_after served_after
  carrying f =
      phase-row k m p l inv _ resumed f
      (omega (
        arith,
        same_self resumed,
        inv.tickets.at resumed,
        lt-suc resumed resumed,
      ))
      (record {
        numbers = λ u z. (refl, omega (arith, lt-suc u resumed));
        order = λ u j h. omega arith;
      })
      (names-kept k m p l inv resumed _ (ResumingAt resumed) f (omega arith))
      (omega arith) (refl, refl, refl, refl)
      (λ xs a. all_more resumed (resumed + 1) (omega arith) xs a)

  -- Rows on the cell of the party's own ticket t. Where the table lists none, the owner's stage
  -- is not one that the cell allows.
  module _ (t : ℕ) (f : Phase) (e : phase_in (phases m) p ≡ f) (o : 1 ≤ own t f) where
    few : t < TICKETS
    few = (mine inv.tickets p t f e o).2

    -- the invariant at t, with the party's own stage for all of it
    known : (a : Place) → places m t ≡ a
        → AtIn (phases m) issued resumed t a × (sum (stage t) m ≡ stage t f)
    known a i = (here inv.tickets t a i, (mine inv.tickets p t f e o).0)

  owns : (t : ℕ) → 1 ≤ same t t
  owns t = omega (arith, same_self t)

  numbered : (t : ℕ) (a : Place) → places m t ≡ a → phase_in (phases m) p ≡ Ticketed t
      → Good k Step p m (Ticketed t) (step_ticketed (Waiting t) t a (look m p))
  unfolding step_ticketed pick is_one_of is_place_of seen_by phase_after phases_after counter_after served_after AllBelow
  numbered t Empty i e =
      place-row k m p l inv _ _ t e i (few t _ e (owns t))
      (omega (arith, same_self t, known t _ e (owns t) _ i)) (omega arith)
      (λ y. same_self t, λ y. absurd (y refl)) (omega arith) (refl, refl, refl, refl) (λ xs a. a)
  numbered t Permit i e =
      let b = permit-below inv.tickets t i in
      place-row k m p l inv _ _ t e i (few t _ e (owns t))
      (omega (arith, same_self t, known t _ e (owns t) _ i))
      (record {
        numbers = λ v y. (refl, refl);
        order = λ v h j. omega (arith, lt_no v t (omega arith));
      })
      tt (omega arith) (refl, refl, refl, refl) (λ xs a. (omega (arith, ap ticket_of e), a))
  numbered t (WaitedBy q) i e =
      let y : ⊥ = omega (arith, same_self t, known t _ e (owns t) _ i) in absurd y
  numbered t Cancelled i e =
      let y : ⊥ = omega (arith, same_self t, known t _ e (owns t) _ i) in absurd y
  numbered t Refused i e =
      let y : ⊥ = omega (arith, same_self t, known t _ e (owns t) _ i) in absurd y
  numbered t Done i e =
      let y : ⊥ = omega (arith, same_self t, known t _ e (owns t) _ i) in absurd y

  numbered-marked : (t : ℕ) (a : Place) → places m t ≡ a → phase_in (phases m) p ≡ TicketedMarked t
      → Good k Step p m (TicketedMarked t) (step_ticketed (Aborting t) t a (look m p))
  unfolding step_ticketed pick is_one_of is_place_of seen_by phase_after phases_after counter_after served_after AllBelow
  numbered-marked t Empty i e =
      place-row k m p l inv _ _ t e i (few t _ e (owns t))
      (omega (arith, same_self t, known t _ e (owns t) _ i)) (omega arith)
      (λ y. same_self t, λ y. absurd (y refl)) (omega arith) (refl, refl, refl, refl) (λ xs a. a)
  numbered-marked t Permit i e =
      let b = permit-below inv.tickets t i in
      place-row k m p l inv _ _ t e i (few t _ e (owns t))
      (omega (arith, same_self t, known t _ e (owns t) _ i))
      (record {
        numbers = λ v y. (refl, refl);
        order = λ v h j. omega (arith, lt_no v t (omega arith));
      })
      tt (omega arith) (refl, refl, refl, refl) (λ xs a. (omega (arith, ap ticket_of e), a))
  numbered-marked t (WaitedBy q) i e =
      let y : ⊥ = omega (arith, same_self t, known t _ e (owns t) _ i) in absurd y
  numbered-marked t Cancelled i e =
      let y : ⊥ = omega (arith, same_self t, known t _ e (owns t) _ i) in absurd y
  numbered-marked t Refused i e =
      let y : ⊥ = omega (arith, same_self t, known t _ e (owns t) _ i) in absurd y
  numbered-marked t Done i e =
      let y : ⊥ = omega (arith, same_self t, known t _ e (owns t) _ i) in absurd y

  cancelling : (t : ℕ) (a : Place) → places m t ≡ a → phase_in (phases m) p ≡ Cancelling t
      → Good k Step p m (Cancelling t) (step_cancelling t a (look m p))
  unfolding step_cancelling pick is_one_of is_place_of seen_by phase_after phases_after counter_after served_after
  cancelling t (WaitedBy q) i e =
      place-row k m p l inv _ _ t e i (few t _ e (owns t))
      (omega (arith, same_self t, known t _ e (owns t) _ i)) (omega arith)
      tt (omega arith) (refl, refl, refl, refl) (λ xs a. a)
  cancelling t Permit i e =
      place-row k m p l inv _ _ t e i (few t _ e (owns t))
      (omega (arith, same_self t, known t _ e (owns t) _ i)) (omega arith)
      tt (omega arith) (refl, refl, refl, refl) (λ xs a. a)
  cancelling t Empty i e =
      let y : ⊥ = omega (arith, same_self t, known t _ e (owns t) _ i) in absurd y
  cancelling t Cancelled i e =
      let y : ⊥ = omega (arith, same_self t, known t _ e (owns t) _ i) in absurd y
  cancelling t Refused i e =
      let y : ⊥ = omega (arith, same_self t, known t _ e (owns t) _ i) in absurd y
  cancelling t Done i e =
      let y : ⊥ = omega (arith, same_self t, known t _ e (owns t) _ i) in absurd y

  refusing : (t : ℕ) (a : Place) → places m t ≡ a → phase_in (phases m) p ≡ Refusing t
      → Good k Step p m (Refusing t) (step_refusing t a (look m p))
  unfolding step_refusing pick is_one_of is_place_of seen_by phase_after phases_after counter_after served_after
  refusing t (WaitedBy q) i e =
      place-row k m p l inv _ _ t e i (few t _ e (owns t))
      (omega (arith, same_self t, known t _ e (owns t) _ i)) (omega arith)
      tt (omega arith) (refl, refl, refl, refl) (λ xs a. a)
  refusing t Permit i e =
      place-row k m p l inv _ _ t e i (few t _ e (owns t))
      (omega (arith, same_self t, known t _ e (owns t) _ i)) (omega arith)
      tt (omega arith) (refl, refl, refl, refl) (λ xs a. a)
  refusing t Empty i e =
      let y : ⊥ = omega (arith, same_self t, known t _ e (owns t) _ i) in absurd y
  refusing t Cancelled i e =
      let y : ⊥ = omega (arith, same_self t, known t _ e (owns t) _ i) in absurd y
  refusing t Refused i e =
      let y : ⊥ = omega (arith, same_self t, known t _ e (owns t) _ i) in absurd y
  refusing t Done i e =
      let y : ⊥ = omega (arith, same_self t, known t _ e (owns t) _ i) in absurd y

  giving-up : (t : ℕ) (z : Bool) → below_zero m.figures.counter ≡ z
      → phase_in (phases m) p ≡ Aborting t
      → Good k Step p m (Aborting t) (step_aborting t z (look m p))
  unfolding step_aborting pick is_one_of is_place_of seen_by phase_after phases_after counter_after served_after
  giving-up t true c e =
      phase-row k m p l inv _ t e
      (omega (arith, same_self t, known t _ e (owns t) _ refl, gave-below m.figures.counter c))
      (record {
        numbers = λ v y. (refl, refl);
        order = λ v h j. omega (arith, lt-le v t, gave-below m.figures.counter c);
      })
      (names-kept k m p l inv t _ (Cancelling t) e (omega arith)) (omega arith) (refl, refl, refl, refl)
      (λ xs a. a)
  giving-up t false c e =
      phase-row k m p l inv _ t e
      (omega (arith, same_self t, known t _ e (owns t) _ refl, gave-above m.figures.counter c))
      (record {
        numbers = λ v y. (refl, refl);
        order = λ v h j. omega (arith, lt-le v t, gave-above m.figures.counter c);
      })
      (names-kept k m p l inv t _ (Refusing t) e (omega arith)) (omega arith) (refl, refl, refl, refl)
      (λ xs a. a)

  -- Rows of a hand-over. The party owns no ticket; the owner's stage is what the cell allows.
  module _ (t : ℕ) (e : phase_in (phases m) p ≡ ResumingAt t) where
    below : t < resumed
    below = hand-below inv.tickets p t e

    reach : t < TICKETS
    reach = omega (arith, below, near inv.tickets)

    -- the one hand that ticket t has
    held : (a : Place) → places m t ≡ a
        → AtIn (phases m) issued resumed t a × (1 ≤ sum (hand t) m)
    unfolding pick is_one_of
    held a i = (
      here inv.tickets t a i,
      omega (arith, one_in inv.tickets (hand t) p (ResumingAt t) refl e, same_self t),
    )

    -- the waiter has given up: the permit is left to it
    delegated : (q : ℕ) → places m t ≡ WaitedBy q
        → is_waiting (phase_in (phases m) q) ≡ false
        → Good k Step p m (ResumingAt t) (resume_waiter false q t (look m p))
    unfolding resume_waiter pick is_one_of is_place_of seen_by phase_after phases_after counter_after served_after
    delegated q i w =
        place-row k m p l inv _ _ t e i reach
        (omega (arith, same_self t, here inv.tickets t (WaitedBy q) i, still)) (omega arith)
        tt (omega arith) (refl, refl, refl, refl) (λ xs a. a)
      where
        gone : (g : Phase) → is_waiting g ≡ false → stand t g ≡ 1
            → (stage t g ≤ 2) × (1 ≤ own t g)
        gone g y o = omega (arith, stage-waiting t g, stand-own t g, ap bit y)

        still : sum (stage t) m ≤ 2
        still =
            let g = gone (phase_in (phases m) q) w (inv.tickets.named t q i) in
            omega (
              arith,
              exact inv.tickets q t (phase_in (phases m) q) refl g.1,
              g.0,
            )

    -- The waiter is woken: as if it gave up, the permit were left there, and it took it.
    module _ (q : ℕ) (i : places m t ≡ WaitedBy q) (g : phase_in (phases m) q ≡ Waiting t) where
      party : q < m.opening.parties
      party =
          party-in inv.tickets q (Waiting t) g
          (λ z. (let y : ◌≡◌ {A = ℕ} 0 1 = cc in omega arith))

      other : p ≢ q
      other z = let y : ◌≡◌ {A = ℕ} 0 1 = cc in omega arith

      m₁ : Queue
      m₁ = set-in m q (with_phase (Aborting t) free_slot) m.cells m.figures

      m₂ : Queue
      unfolding m₁
      m₂ =
          set-in m₁ p (with_phase Free (look m p).slot)
          (write m₁.cells t (with_place Permit empty_seat)) m.figures

      m₃ : Queue
      unfolding m₁ m₂
      m₃ =
          set-in m₂ q (with_phase Holding (look m p).waiter)
          (write m₂.cells t (with_place Done (look m p).seat)) m.figures

      s₁ : ShiftIn m m₁ q (Waiting t) (Aborting t) t (WaitedBy q) (WaitedBy q)
      unfolding m₁
      s₁ =
          shift-phase m q (Waiting t) (with_phase (Aborting t) free_slot) t
          (inside inv.tickets q party) g (WaitedBy q) m.figures i

      i₁ : Inv k m₁
      unfolding m₁ pick is_one_of is_place_of
      i₁ =
          keep k m m₁ q (Waiting t) (Aborting t) t (WaitedBy q) (WaitedBy q) inv s₁
          (omega (arith, same_self t, exact inv.tickets q t (Waiting t) g (owns t)))
          (omega arith)
          (names_same q t (Aborting t) (WaitedBy q) (same_self t)) party refl

      s₂ : ShiftIn m₁ m₂ p (ResumingAt t) Free t (WaitedBy q) Permit
      unfolding m₁ m₂
      s₂ =
          shift-place m₁ p (ResumingAt t) (with_phase Free (look m p).slot) t
          (omega (arith, s₁.size, inside inv.tickets p l)) (s₁.others p other ∙ e)
          (WaitedBy q) (with_place Permit empty_seat) m.figures i reach

      i₂ : Inv k m₂
      unfolding m₁ m₂ pick is_one_of is_place_of
      i₂ =
          keep k m₁ m₂ p (ResumingAt t) Free t (WaitedBy q) Permit i₁ s₂
          (omega (arith, same_self t, exact i₁.tickets q t (Aborting t) s₁.now (owns t)))
          (omega arith) tt l refl

      s₃ : ShiftIn m₂ m₃ q (Aborting t) Holding t Permit Done
      unfolding m₁ m₂ m₃
      s₃ =
          shift-place m₂ q (Aborting t) (with_phase Holding (look m p).waiter) t
          (omega (arith, s₁.size, s₂.size, inside inv.tickets q party))
          (s₂.others q (λ z. other (sym z)) ∙ s₁.now)
          Permit (with_place Done (look m p).seat) m.figures s₂.cell_now reach

      i₃ : Inv k m₃
      unfolding m₁ m₂ m₃ pick is_one_of is_place_of
      i₃ =
          keep k m₂ m₃ q (Aborting t) Holding t Permit Done i₂ s₃
          (omega (arith, same_self t, exact i₂.tickets q t (Aborting t) s₃.was (owns t)))
          (record {
            numbers = λ v z. (refl, refl);
            order = λ v h j. omega (arith, lt_no v t (omega (arith, below)));
          })
          tt party refl

      -- the three at once
      abbrev together : (ℕ → PlaceSlot) → List PartySlot → Queue
      together c ss = with_parts m.figures c ss m.pool m

      abbrev three : Queue
      three =
          together (write m.cells t (with_place Done (look m p).seat))
          (write_slot (write_slot m.slots q (with_phase Holding (look m p).waiter)) p
          (with_phase Free (look m p).slot))

      at_once : m₃ ≡ three
      unfolding m₁ m₂ m₃ write_slot
      at_once =
          ap
          (λ (c : ℕ → PlaceSlot).
          together c
          (set (set (set m.slots q (with_phase (Aborting t) free_slot)) p
          (with_phase Free (look m p).slot)) q (with_phase Holding (look m p).waiter)))
          (write-twice m.cells t (with_place Permit empty_seat) (with_place Done (look m p).seat))
          ∙ ap (together (write m.cells t (with_place Done (look m p).seat)))
          (set_comm (set m.slots q (with_phase (Aborting t) free_slot)) p q
          (with_phase Free (look m p).slot) (with_phase Holding (look m p).waiter) other
          ∙ ap (λ (ss : List PartySlot). set ss p (with_phase Free (look m p).slot))
          (set-set m.slots q (with_phase (Aborting t) free_slot)
          (with_phase Holding (look m p).waiter)))

      wakes : Good k Step p m (ResumingAt t) (resume_waiter true q t (look m p))
      unfolding m₁ m₂ m₃ resume_waiter pick is_one_of is_place_of seen_by phase_after phases_after counter_after served_after
          AllBelow
      wakes =
          record {
            inv = subst (Inv k) at_once i₃;
            opening = refl;
            reports =
                record {
                  success = refl;
                  moved =
                      write-phase (write_slot m.slots q (with_phase Holding (look m p).waiter)) p
                      (with_phase Free (look m p).slot)
                      ∙ ap (λ (ps : List Phase). set ps p Free)
                      (write-phase m.slots q (with_phase Holding (look m p).waiter));
                  held =
                      omega (
                        arith,
                        ap (sum holding) at_once,
                        s₁.sums holding,
                        s₂.sums holding,
                        s₃.sums holding,
                      );
                  permits =
                      omega (
                        arith,
                        ap (cell_sum permit_cell) at_once,
                        s₁.cell_sums permit_cell,
                        s₂.cell_sums permit_cell,
                        s₃.cell_sums permit_cell,
                      );
                  refusals =
                      omega (
                        arith,
                        ap (cell_sum refused_cell) at_once,
                        s₁.cell_sums refused_cell,
                        s₂.cell_sums refused_cell,
                        s₃.cell_sums refused_cell,
                      );
                  counter = refl;
                  resumed = omega arith;
                  begins = omega arith;
                  room =
                      omega (
                        arith,
                        ap (sum drawing) at_once,
                        s₁.sums drawing,
                        s₂.sums drawing,
                        s₃.sums drawing,
                      );
                  nearer =
                      omega (
                        arith,
                        ap (sum to_calm) at_once,
                        s₁.sums to_calm,
                        s₂.sums to_calm,
                        s₃.sums to_calm,
                        ap (sum drawing) at_once,
                        s₁.sums drawing,
                        s₂.sums drawing,
                        s₃.sums drawing,
                      );
                  serves = λ xs a. (omega (arith, below, ap ticket_of g), a);
                };
          }

    waits-here : (g : Phase) → is_waiting g ≡ true → stand t g ≡ 1 → g ≡ Waiting t
    unfolding pick is_one_of
    waits-here g y o =
        let w = one_of (Waiting 0) g y in
        w ∙ ap Waiting (same-eq (ticket_of g) t (omega (arith, ap (stand t) w)))

    handing : (a : Place) → places m t ≡ a → (look m p).seat.place ≡ a
        → Good k Step p m (ResumingAt t) (step_resuming_at t (is_waiting (look m p).waiter.phase) a (look m p))
    unfolding step_resuming_at pick is_one_of is_place_of seen_by phase_after phases_after counter_after served_after
    handing Empty i j =
        place-row k m p l inv _ _ t e i reach (omega (arith, same_self t, held Empty i))
        (omega arith) tt (omega arith) (refl, refl, refl, refl) (λ xs a. a)
    handing (WaitedBy q) i j = go (is_waiting (look m p).waiter.phase) refl
      where
        same-waiter : (look m p).waiter.phase ≡ phase_in (phases m) q
        same-waiter =
            ap (λ (a : Place). (by_waiter free_slot (read_slot m.slots) a).phase) j
            ∙ read-phase m.slots q

        go : (b : Bool) → is_waiting (look m p).waiter.phase ≡ b
            → Good k Step p m (ResumingAt t) (resume_waiter b q t (look m p))
        go true y =
            wakes q i
            (waits-here (phase_in (phases m) q) (sym (ap is_waiting same-waiter) ∙ y)
            (inv.tickets.named t q i))
        go false y = delegated q i (sym (ap is_waiting same-waiter) ∙ y)
    handing Cancelled i j =
        place-row k m p l inv _ _ t e i reach (omega (arith, same_self t, held Cancelled i))
        (omega arith) tt (omega arith) (refl, refl, refl, refl) (λ xs a. a)
    handing Refused i j =
        place-row k m p l inv _ _ t e i reach (omega (arith, same_self t, held Refused i))
        (omega arith) tt (omega arith) (refl, refl, refl, refl) (λ xs a. a)
    handing Permit i j =
        let b : ⊥ = omega (arith, held Permit i, lt-le t resumed) in absurd b
    handing Done i j =
        let b : ⊥ = omega (arith, held Done i, lt-le t resumed) in absurd b

  -- The place that a party sees is the cell of its ticket.
  seen : (f : Phase) → phase_in (phases m) p ≡ f
      → (look m p).seat.place ≡ (by_ticket empty_seat m.cells f).place
  unfolding seen_by
  seen f e =
      ap (λ (g : Phase). (by_ticket empty_seat m.cells g).place) (read-phase m.slots p ∙ e)

  step-good : (f : Phase) → phase_in (phases m) p ≡ f → Good k Step p m f (step_in f (look m p))
  unfolding row_in step_storing pick is_one_of is_place_of seen_by phase_after phases_after counter_after served_after
  step-good Free e = refl
  step-good Holding e = refl
  step-good (Waiting t) e = refl
  step-good Acquiring e = asked _ _ refl refl e
  step-good Suspending e = unnumbered e
  step-good (Ticketed t) e = numbered t _ (sym (seen (Ticketed t) e)) e
  step-good (Aborting t) e = giving-up t _ refl e
  step-good (Cancelling t) e = cancelling t _ (sym (seen (Cancelling t) e)) e
  step-good (Refusing t) e = refusing t _ (sym (seen (Refusing t) e)) e
  step-good Releasing e = giving-back _ _ refl refl e
  step-good Resuming e = carrying e
  step-good (ResumingAt t) e = handing t e _ (sym (seen (ResumingAt t) e)) refl
  step-good Fetching e = fetching _ e
  step-good Storing e = still-row k m p l inv _ e (λ t. refl) refl (omega arith) (refl, refl, refl, refl) (λ xs a. a)
  step-good AcquiringMarked e = asked-marked _ _ refl refl e
  step-good SuspendingMarked e = unnumbered-marked e
  step-good (TicketedMarked t) e = numbered-marked t _ (sym (seen (TicketedMarked t) e)) e

  -- The other calls. The party's own phase is what its slot says.
  abbrev phase : Phase
  phase = (read_slot m.slots p).phase

  is-of : (x : Phase) → phase ≡ x → phase_in (phases m) p ≡ x
  is-of x e = sym (read-phase m.slots p) ∙ e

  acquire-good : (a b : Bool) → is_free phase ≡ a → leb MAX_BEGUN m.figures.begun ≡ b
      → Good k Acquire p m phase (acquire a b false (look m p))
  unfolding acquire pick is_one_of is_place_of seen_by phase_after phases_after counter_after served_after
  acquire-good false b e i = refl
  acquire-good true true e i = refl
  acquire-good true false e i =
      let j = leb-false MAX_BEGUN m.figures.begun i in
      let f = is-of Free (one_of Free phase e) in
      phase-row k m p l inv _ issued f (omega (arith, inv.tickets.at issued))
      (omega arith) (names-kept k m p l inv issued _ Acquiring f (omega arith)) (omega arith)
      (refl, refl, refl, refl) (λ xs a. a)

  -- A wait is given up; before it the give-up is remembered.
  abbrev GivesUp : Phase → Type 0
  GivesUp f = phase_in (phases m) p ≡ f → Good k Cancel p m f (cancel true false (given_up f) (look m p))

  gives_up : (f : Phase) → can_cancel f ≡ true → GivesUp f
  unfolding cancel given_up pick is_one_of is_place_of seen_by phase_after phases_after counter_after served_after
  gives_up =
      can-cancel GivesUp
      (λ t f. phase-row k m p l inv _ t f
      (omega (arith, same_self t, known t _ f (owns t) _ refl, least-le (places m t)))
      (omega arith) (names-kept k m p l inv t _ (Aborting t) f (omega arith)) (omega arith)
      (refl, refl, refl, refl) (λ xs a. a))
      (λ f. still-row k m p l inv _ f (λ t. refl) refl (omega arith) (refl, refl, refl, refl) (λ xs a. a))
      (λ f. still-row k m p l inv _ f (λ t. refl) refl (omega arith) (refl, refl, refl, refl) (λ xs a. a))
      (λ t f. phase-row k m p l inv _ t f (omega (arith, same_self t, known t _ f (owns t) _ refl))
      (omega arith) (names-kept k m p l inv t _ (TicketedMarked t) f (omega arith)) (omega arith)
      (refl, refl, refl, refl) (λ xs a. a))

  cancel-good : (a b : Bool) → can_cancel phase ≡ a
      → Good k Cancel p m phase (cancel a b (given_up phase) (look m p))
  unfolding cancel
  cancel-good false b e = refl
  cancel-good true true e = refl
  cancel-good true false e = gives_up phase e (is-of phase refl)

  release-good : (a : Bool) → is_holding phase ≡ a
      → Good k Release p m phase (release a (look m p))
  unfolding release pick is_one_of is_place_of seen_by phase_after phases_after counter_after served_after
  release-good false e = refl
  release-good true e =
      let f = is-of Holding (one_of Holding phase e) in
      still-row k m p l inv _ f (λ t. refl) refl (omega arith) (refl, refl, refl, refl) (λ xs a. a)

  radio-good : (a : Bool) → Good k Radio p m phase (tell_radio a (look m p))
  unfolding tell_radio is_place_of phase_after phases_after counter_after served_after
  radio-good true =
      tell-row k m p l inv (is-of phase refl) (omega arith) (refl, refl, refl, refl) (λ xs a. a)
  radio-good false =
      tell-row k m p l inv (is-of phase refl) (omega arith) (refl, refl, refl, refl) (λ xs a. a)

  pub decide-good : (o : Op) → Good k o p m (look m p).slot.phase (decide o false (look m p))
  unfolding decide seen_by
  decide-good Acquire = acquire-good _ _ refl refl
  decide-good Step = step-good _ (sym (read-phase m.slots p))
  decide-good Cancel = cancel-good _ _ refl
  decide-good Release = release-good _ refl
  decide-good Radio = radio-good _
