-- The one walk of the step table: each row is good. So are the other calls.
use Prim.Native.Nat.{ℕ, zero, suc, ◌+◌, ◌-◌, ◌*◌, ◌≤◌, ◌<◌}
use mathlib.Core.Path.{◌≡◌, refl, sym, ap, subst, ◌∙◌}
use mathlib.Core.Bool.{Bool, true, false, cond, not, ◌&&◌}
use mathlib.Core.List.{List}
use mathlib.Core.Logic.{◌≢◌}
use native.Mathlib.Omega.{arith}
use borrow.Author.Tests.{leb-false, leb-true, eqb-true}
use lib.Dec.{leb, eqb}
use lib.ListN.{set}
use lib.Seq.{set-set, set_comm}
use Rattle.hub.specs.declared.answers.Answer.{Answer}
use Rattle.hub.specs.declared.record.Phase.{Phase}
use Rattle.hub.specs.declared.record.Phase.TheVariants.{Free, Waiting, Acquiring}
use Rattle.hub.specs.declared.record.Phase.TheVariants.{Suspending, Ticketed, Aborting}
use Rattle.hub.specs.declared.record.Phase.TheVariants.{Cancelling, Refusing, Releasing}
use Rattle.hub.specs.declared.record.Phase.TheVariants.{Resuming, ResumingAt}
use Rattle.hub.specs.declared.record.Phase.TheVariants.{AcquiringMarked, SuspendingMarked, TicketedMarked}
use Rattle.hub.specs.declared.record.Place.{Place}
use Rattle.hub.specs.declared.record.Place.TheVariants.{Empty, Waiting as WaitedBy, Permit}
use Rattle.hub.specs.declared.record.Place.TheVariants.{Cancelled, Refused, Done}
use Rattle.hub.specs.declared.record.PlaceSlot.{PlaceSlot}
use Rattle.hub.specs.Basics.{bit}
use Rattle.hub.specs.Ledger.{phase_in}
use Rattle.hub.specs.Phases.{by_ticket, by_waiter, is_one_of, is_place_of, is_free, is_waiting, ticket_of}
use Rattle.hub.specs.Queue.{write}
use Rattle.hub.specs.Record.{MAX_BEGUN, empty_seat, with_place}
use Rattle.hub.specs.Table.{can_cancel, given_up}
use Rattle.hub.proofs.Laws.Bools.{first, second}
use Rattle.hub.proofs.Laws.Lists.{weight-add, weight-length, weight-scale}
use Rattle.hub.proofs.Laws.Phases.{all_others, each_of, one_of, phases-alike}
use Rattle.hub.proofs.Laws.Table.{can-cancel}
use Rattle.hub.proofs.Invariant.Rows.{write-twice}
use Rattle.hub.proofs.Invariant.Weights.{same, same_self, same-eq, lt_no, lt-le, lt-suc, pick}
use Rattle.hub.proofs.Invariant.Weights.{resuming, suspending, live, own, hand, stand, stand-own}
use Rattle.hub.proofs.Invariant.Weights.{stage, stage-waiting, drawing, permit_cell, least, most, TICKETS}
use Rattle.hub.proofs.Invariant.Weights.{stage-own, least-le}
use Rattle.hub.proofs.Invariant.Tickets.{AtIn, Names, one_in, exact, hand-below}
use Rattle.hub.proofs.Invariant.Tickets.{near, party-in, inside, mine, here}
use Rattle.latch.specs.declared.moves.LatchOp.{LatchOp}
use Rattle.latch.specs.declared.moves.LatchOp.TheVariants.{Await, Step, Cancel, CountDown}
use Rattle.latch.specs.declared.record.LatchSlot.{LatchSlot}
use Rattle.latch.specs.Ledger.{slot_after, slot_in, slots_after, waiters_after}
use Rattle.latch.specs.Fits.{HUB_ONLY}
use Rattle.latch.specs.Look.{seen_by}
use Rattle.latch.specs.Queue.{Queue, look, phases, places, with_parts}
use Rattle.latch.specs.Record.{carry_on, free_slot, in_phase, read_slot, with_phase, write_slot}
use Rattle.latch.specs.Table.{await, brings_to_zero, cancel, count_down, decide, done, put, wake, step_in}
use Rattle.latch.specs.Table.{step_acquiring, step_suspending, step_ticketed, step_releasing}
use Rattle.latch.specs.Table.{step_resuming, resume_waiter, step_resuming_at, step_aborting}
use Rattle.latch.specs.Table.{step_cancelling, step_refusing}
use Rattle.latch.proofs.Laws.Slots.{read-phase}
use Rattle.latched.proofs.Invariant.Weights.{asked, cell_sum, due-done, due-open, due_at, holding}
use Rattle.latched.proofs.Invariant.Weights.{left, not_done, one_cell, one-wait, slot_sum, sum}
use Rattle.latched.proofs.Invariant.Keep.{Inv, ShiftIn, keep, no-load, awaiting}
use Rattle.latched.proofs.Invariant.Rows.{Good, set-in, shift-place, shift-phase}
use Rattle.latched.proofs.Invariant.Rows.{place-row, phase-row, names-kept}

names_same : (p t : ℕ) (x : Phase) (a : Place) → stand t x ≡ 1 → Names p t x a a
names_same p t x Empty o = tt
names_same p t x (WaitedBy q) o = (λ z. o, λ z. refl)
names_same p t x Permit o = tt
names_same p t x Cancelled o = tt
names_same p t x Refused o = tt
names_same p t x Done o = tt

-- A count-down that does not bring the count to 0 with waiters leaves what is due.
due-lower : (c w : ℕ) → eqb c 1 && leb 1 w ≡ false → due_at (c - 1) w ≡ due_at c w
due-lower zero w e = refl
due-lower (suc zero) w e = omega (arith, leb-false 1 w e)
due-lower (suc (suc c)) w e = ap (λ (n : ℕ). due_at n w) (one_less c)
  where
    one_less : (c : ℕ) → suc (suc c) - 1 ≡ suc c
    one_less c = omega arith

module _ (m : Queue) (p : ℕ) (l : p < m.parties) (inv : Inv m) where
  abbrev issued : ℕ
  issued = m.figures.issued

  abbrev resumed : ℕ
  resumed = m.figures.resumed

  -- The party's slot, and what is known of it from its phase.
  abbrev own-slot : LatchSlot
  own-slot = read_slot m.slots p

  abbrev now-in : Phase → LatchSlot
  now-in f = with_phase f own-slot

  in-phase : (f : Phase) → own-slot.phase ≡ f → slot_in m.slots p ≡ now-in f
  unfolding read_slot
  in-phase f e = λ i. record { phase = e i; raising = own-slot.raising; left = own-slot.left }

  load_of : (f : Phase) → own-slot.phase ≡ f
      → (resuming f ≤ own-slot.left) × (own-slot.left ≤ 32 * resuming f)
  unfolding read_slot
  load_of f e = omega (arith, inv.loaded p, inv.unloaded p, ap resuming e)

  phase-is : (f : Phase) → own-slot.phase ≡ f → phase_in (phases m) p ≡ f
  phase-is f e = sym (read-phase m.slots p) ∙ e

  -- What every row may use besides.
  borne-most : (slot_sum left m + cell_sum permit_cell m ≤ 32) × (m.figures.waiters ≤ 32)
  borne-most = (inv.borne, inv.crowd)

  -- Room for one waiter more: before the mark waiters are parties, and this one is not of them yet.
  one_more : (f : Phase) → own-slot.phase ≡ f → 1 ≤ asked f → 1 ≤ m.figures.count
      → m.figures.waiters + 1 ≤ 32
  unfolding pick is_one_of
  one_more f e a c =
      omega (
        arith,
        awaiting m inv c,
        due-open m.figures.count m.figures.waiters c,
        one_in inv.tickets asked p f refl (phase-is f e),
        weight-length (λ g. suspending g + live g + asked g) one-wait (phases m),
        weight-add (λ g. suspending g + live g) asked (phases m),
        weight-add suspending live (phases m),
        inv.tickets.size,
      )

  -- Rows on the figures alone. The ticket next issued stands for all: nothing happens to it.
  asks : (d u : Bool) → done m.figures ≡ d → own-slot.raising ≡ u → own-slot.phase ≡ Acquiring
      → Good Step p m Acquiring (step_acquiring Acquiring Suspending d u (look m p))
  unfolding step_acquiring pick is_one_of is_place_of seen_by slot_after slots_after waiters_after
  asks true u d r e =
      phase-row m p l inv _ issued (in-phase Acquiring e)
      (omega (arith, inv.tickets.at issued, load_of Acquiring e, borne-most)) (omega arith)
      (names-kept m p l inv issued _ Free (phase-is Acquiring e) (omega arith))
      (omega (arith, eqb-true m.figures.count 0 d)) (refl, refl, refl, refl)
  asks false false d r e =
      phase-row m p l inv _ issued (in-phase Acquiring e)
      (omega (arith, inv.tickets.at issued, load_of Acquiring e, borne-most)) (omega arith)
      (names-kept m p l inv issued _ Acquiring (phase-is Acquiring e) (omega arith))
      (omega arith) (refl, rw r, omega (arith, ap bit r), refl)
  asks false true d r e =
      let c = not_done m.figures.count d in
      phase-row m p l inv _ issued (in-phase Acquiring e)
      (omega (
        arith,
        inv.tickets.at issued,
        load_of Acquiring e,
        borne-most,
        due-open m.figures.count m.figures.waiters c,
        due-open m.figures.count (m.figures.waiters + 1) c,
        one_more Acquiring e (omega arith) c,
      ))
      (omega arith)
      (names-kept m p l inv issued _ Suspending (phase-is Acquiring e) (omega arith))
      (omega arith) (refl, rw r, rw r, refl)

  asks-marked : (d u : Bool) → done m.figures ≡ d → own-slot.raising ≡ u → own-slot.phase ≡ AcquiringMarked
      → Good Step p m AcquiringMarked (step_acquiring AcquiringMarked SuspendingMarked d u (look m p))
  unfolding step_acquiring pick is_one_of is_place_of seen_by slot_after slots_after waiters_after
  asks-marked true u d r e =
      phase-row m p l inv _ issued (in-phase AcquiringMarked e)
      (omega (arith, inv.tickets.at issued, load_of AcquiringMarked e, borne-most)) (omega arith)
      (names-kept m p l inv issued _ Free (phase-is AcquiringMarked e) (omega arith))
      (omega (arith, eqb-true m.figures.count 0 d)) (refl, refl, refl, refl)
  asks-marked false false d r e =
      phase-row m p l inv _ issued (in-phase AcquiringMarked e)
      (omega (arith, inv.tickets.at issued, load_of AcquiringMarked e, borne-most)) (omega arith)
      (names-kept m p l inv issued _ AcquiringMarked (phase-is AcquiringMarked e) (omega arith))
      (omega arith) (refl, rw r, omega (arith, ap bit r), refl)
  asks-marked false true d r e =
      let c = not_done m.figures.count d in
      phase-row m p l inv _ issued (in-phase AcquiringMarked e)
      (omega (
        arith,
        inv.tickets.at issued,
        load_of AcquiringMarked e,
        borne-most,
        due-open m.figures.count m.figures.waiters c,
        due-open m.figures.count (m.figures.waiters + 1) c,
        one_more AcquiringMarked e (omega arith) c,
      ))
      (omega arith)
      (names-kept m p l inv issued _ SuspendingMarked (phase-is AcquiringMarked e) (omega arith))
      (omega arith) (refl, rw r, rw r, refl)

  giving-back : (b : Bool) → brings_to_zero m.figures ≡ b → own-slot.phase ≡ Releasing
      → Good Step p m Releasing (step_releasing b (look m p))
  unfolding step_releasing pick is_one_of is_place_of seen_by slot_after slots_after waiters_after
  giving-back true b e =
      let c = eqb-true m.figures.count 1 (first _ _ b) in
      let w = leb-true 1 m.figures.waiters (second (eqb m.figures.count 1) _ b) in
      let z = inv.sealed (omega arith) in
      phase-row m p l inv _ issued (in-phase Releasing e)
      (omega (
        arith,
        inv.tickets.at issued,
        load_of Releasing e,
        borne-most,
        z,
        no-load m inv (omega (arith, z)),
        due-open m.figures.count m.figures.waiters (omega arith),
      ))
      (omega arith)
      (names-kept m p l inv issued _ Resuming (phase-is Releasing e) (omega arith))
      (omega arith) (refl, refl, refl, refl)
  giving-back false b e =
      phase-row m p l inv _ issued (in-phase Releasing e)
      (omega (
        arith,
        inv.tickets.at issued,
        load_of Releasing e,
        borne-most,
        due-lower m.figures.count m.figures.waiters b,
      ))
      (omega arith)
      (names-kept m p l inv issued _ Free (phase-is Releasing e) (omega arith))
      (omega arith) (refl, refl, refl, refl)

  -- A new ticket: nobody owned it, and its cell is empty or has a hand-over.
  fresh-cell : (least (places m issued) ≡ 0) × (1 ≤ most (places m issued))
      × (sum (stage issued) m ≡ 0)
  unfolding is_place_of
  fresh-cell = go (places m issued) (inv.tickets.at issued)
    where
      none : sum (stage issued) m ≤ 3 * sum (own issued) m
      none =
          omega (
            arith,
            weight-scale 1 3 (stage issued) (own issued) Free (phases m)
                (λ i j. omega (arith, stage-own issued (phase_in (phases m) i))),
          )

      go : (b : Place) → AtIn (phases m) issued resumed issued b
          → (least b ≡ 0) × (1 ≤ most b) × (sum (stage issued) m ≡ 0)
      go Empty a = omega (arith, none, lt_no issued issued (omega arith))
      go (WaitedBy q) a = omega (arith, none, lt_no issued issued (omega arith))
      go Permit a = omega (arith, none, lt_no issued issued (omega arith))
      go Cancelled a = omega (arith, none, lt_no issued issued (omega arith))
      go Refused a = omega (arith, none, lt_no issued issued (omega arith))
      go Done a = omega (arith, none, lt_no issued issued (omega arith))

  unnumbered : own-slot.phase ≡ Suspending → Good Step p m Suspending (step_suspending Ticketed (look m p))
  unfolding step_suspending pick is_one_of is_place_of seen_by slot_after slots_after waiters_after
  unnumbered e =
      phase-row m p l inv _ issued (in-phase Suspending e)
      (omega (
        arith,
        same_self issued,
        inv.tickets.at issued,
        lt-suc issued issued,
        fresh-cell,
        load_of Suspending e,
        borne-most,
      ))
      (λ u z. (omega (arith, lt-suc u issued), refl))
      (names-kept m p l inv issued _ (Ticketed issued) (phase-is Suspending e) (omega arith))
      (omega arith) (refl, refl, refl, refl)

  unnumbered-marked : own-slot.phase ≡ SuspendingMarked → Good Step p m SuspendingMarked (step_suspending TicketedMarked (look m p))
  unfolding step_suspending pick is_one_of is_place_of seen_by slot_after slots_after waiters_after
  unnumbered-marked e =
      phase-row m p l inv _ issued (in-phase SuspendingMarked e)
      (omega (
        arith,
        same_self issued,
        inv.tickets.at issued,
        lt-suc issued issued,
        fresh-cell,
        load_of SuspendingMarked e,
        borne-most,
      ))
      (λ u z. (omega (arith, lt-suc u issued), refl))
      (names-kept m p l inv issued _ (TicketedMarked issued) (phase-is SuspendingMarked e) (omega arith))
      (omega arith) (refl, refl, refl, refl)

  carrying : own-slot.phase ≡ Resuming → Good Step p m Resuming (step_resuming (look m p))
  unfolding step_resuming pick is_one_of is_place_of seen_by slot_after slots_after waiters_after
  carrying e =
      phase-row m p l inv _ resumed (in-phase Resuming e)
      (omega (
        arith,
        same_self resumed,
        inv.tickets.at resumed,
        lt-suc resumed resumed,
        load_of Resuming e,
        borne-most,
      ))
      (λ u z. (refl, omega (arith, lt-suc u resumed)))
      (names-kept m p l inv resumed _ (ResumingAt resumed) (phase-is Resuming e) (omega arith))
      (omega arith) (refl, refl, refl, refl)

  -- Rows on the cell of the party's own ticket t. Where the table lists none, the owner's stage
  -- is not one that the cell allows.
  module _ (t : ℕ) (f : Phase) (e : own-slot.phase ≡ f) (o : 1 ≤ own t f) where
    few : t < TICKETS
    few = (mine inv.tickets p t f (phase-is f e) o).2

    -- the invariant at t, with the party's own stage for all of it
    known : (a : Place) → places m t ≡ a
        → AtIn (phases m) issued resumed t a × (sum (stage t) m ≡ stage t f)
        × (resuming f ≤ own-slot.left) × (own-slot.left ≤ 32 * resuming f)
        × (slot_sum left m + cell_sum permit_cell m ≤ 32) × (m.figures.waiters ≤ 32)
    known a i =
        let b = load_of f e in (
          here inv.tickets t a i,
          (mine inv.tickets p t f (phase-is f e) o).0,
          b.0,
          b.1,
          inv.borne,
          inv.crowd,
        )

  owns : (t : ℕ) → 1 ≤ same t t
  owns t = omega (arith, same_self t)

  -- A hand-over lies somewhere, or somebody carries or hands: the count is 0.
  at_mark : (t : ℕ) → places m t ≡ Permit → t < TICKETS → m.figures.count ≡ 0
  unfolding is_place_of
  at_mark t i j =
      go m.figures.count (λ c. omega (arith, inv.sealed c, one_cell permit_cell (places m) t j, ap permit_cell i))
    where
      go : (c : ℕ) → (1 ≤ c → ⊥) → c ≡ 0
      go zero f = refl
      go (suc c) f = absurd (f (omega arith))

  bears-mark : (f : Phase) → own-slot.phase ≡ f → 1 ≤ resuming f → m.figures.count ≡ 0
  unfolding pick is_one_of
  bears-mark f e r =
      go m.figures.count
      (λ c. omega (arith, inv.sealed c, one_in inv.tickets resuming p f refl (phase-is f e)))
    where
      go : (c : ℕ) → (1 ≤ c → ⊥) → c ≡ 0
      go zero f = refl
      go (suc c) f = absurd (f (omega arith))

  numbered : (t : ℕ) (a : Place) → places m t ≡ a → own-slot.phase ≡ Ticketed t
      → Good Step p m (Ticketed t) (step_ticketed (Waiting t) t a (look m p))
  unfolding step_ticketed pick is_one_of is_place_of seen_by slot_after slots_after waiters_after
  numbered t Empty i e =
      place-row m p l inv _ _ t (in-phase _ e) i (few t _ e (owns t))
      (omega (arith, same_self t, known t _ e (owns t) _ i))
      (λ y. same_self t, λ y. absurd (y refl)) (omega arith) (refl, refl, refl, refl)
  numbered t Permit i e =
      place-row m p l inv _ _ t (in-phase _ e) i (few t _ e (owns t))
      (omega (arith, same_self t, known t _ e (owns t) _ i))
      tt (omega (arith, at_mark t i (few t _ e (owns t)))) (refl, refl, refl, refl)
  numbered t (WaitedBy q) i e =
      let y : ⊥ = omega (arith, same_self t, known t _ e (owns t) _ i) in absurd y
  numbered t Cancelled i e =
      let y : ⊥ = omega (arith, same_self t, known t _ e (owns t) _ i) in absurd y
  numbered t Refused i e =
      let y : ⊥ = omega (arith, same_self t, known t _ e (owns t) _ i) in absurd y
  numbered t Done i e =
      let y : ⊥ = omega (arith, same_self t, known t _ e (owns t) _ i) in absurd y

  numbered-marked : (t : ℕ) (a : Place) → places m t ≡ a → own-slot.phase ≡ TicketedMarked t
      → Good Step p m (TicketedMarked t) (step_ticketed (Aborting t) t a (look m p))
  unfolding step_ticketed pick is_one_of is_place_of seen_by slot_after slots_after waiters_after
  numbered-marked t Empty i e =
      place-row m p l inv _ _ t (in-phase _ e) i (few t _ e (owns t))
      (omega (arith, same_self t, known t _ e (owns t) _ i))
      (λ y. same_self t, λ y. absurd (y refl)) (omega arith) (refl, refl, refl, refl)
  numbered-marked t Permit i e =
      place-row m p l inv _ _ t (in-phase _ e) i (few t _ e (owns t))
      (omega (arith, same_self t, known t _ e (owns t) _ i))
      tt (omega (arith, at_mark t i (few t _ e (owns t)))) (refl, refl, refl, refl)
  numbered-marked t (WaitedBy q) i e =
      let y : ⊥ = omega (arith, same_self t, known t _ e (owns t) _ i) in absurd y
  numbered-marked t Cancelled i e =
      let y : ⊥ = omega (arith, same_self t, known t _ e (owns t) _ i) in absurd y
  numbered-marked t Refused i e =
      let y : ⊥ = omega (arith, same_self t, known t _ e (owns t) _ i) in absurd y
  numbered-marked t Done i e =
      let y : ⊥ = omega (arith, same_self t, known t _ e (owns t) _ i) in absurd y

  cancelling : (t : ℕ) (a : Place) → places m t ≡ a → own-slot.phase ≡ Cancelling t
      → Good Step p m (Cancelling t) (step_cancelling t a (look m p))
  unfolding step_cancelling pick is_one_of is_place_of seen_by slot_after slots_after waiters_after
  cancelling t (WaitedBy q) i e =
      place-row m p l inv _ _ t (in-phase _ e) i (few t _ e (owns t))
      (omega (arith, same_self t, known t _ e (owns t) _ i))
      tt (omega arith) (refl, refl, refl, refl)
  cancelling t Permit i e =
      place-row m p l inv _ _ t (in-phase _ e) i (few t _ e (owns t))
      (omega (arith, same_self t, known t _ e (owns t) _ i))
      tt (omega arith) (refl, refl, refl, refl)
  cancelling t Empty i e =
      let y : ⊥ = omega (arith, same_self t, known t _ e (owns t) _ i) in absurd y
  cancelling t Cancelled i e =
      let y : ⊥ = omega (arith, same_self t, known t _ e (owns t) _ i) in absurd y
  cancelling t Refused i e =
      let y : ⊥ = omega (arith, same_self t, known t _ e (owns t) _ i) in absurd y
  cancelling t Done i e =
      let y : ⊥ = omega (arith, same_self t, known t _ e (owns t) _ i) in absurd y

  refusing : (t : ℕ) (a : Place) → places m t ≡ a → own-slot.phase ≡ Refusing t
      → Good Step p m (Refusing t) (step_refusing t a (look m p))
  unfolding step_refusing pick is_one_of is_place_of seen_by slot_after slots_after waiters_after
  refusing t (WaitedBy q) i e =
      place-row m p l inv _ _ t (in-phase _ e) i (few t _ e (owns t))
      (omega (arith, same_self t, known t _ e (owns t) _ i))
      tt (omega arith) (refl, refl, refl, refl)
  refusing t Permit i e =
      place-row m p l inv _ _ t (in-phase _ e) i (few t _ e (owns t))
      (omega (arith, same_self t, known t _ e (owns t) _ i))
      tt (omega arith) (refl, refl, refl, refl)
  refusing t Empty i e =
      let y : ⊥ = omega (arith, same_self t, known t _ e (owns t) _ i) in absurd y
  refusing t Cancelled i e =
      let y : ⊥ = omega (arith, same_self t, known t _ e (owns t) _ i) in absurd y
  refusing t Refused i e =
      let y : ⊥ = omega (arith, same_self t, known t _ e (owns t) _ i) in absurd y
  refusing t Done i e =
      let y : ⊥ = omega (arith, same_self t, known t _ e (owns t) _ i) in absurd y

  giving-up : (t : ℕ) (d : Bool) → done m.figures ≡ d → own-slot.phase ≡ Aborting t
      → Good Step p m (Aborting t) (step_aborting t d (look m p))
  unfolding step_aborting pick is_one_of is_place_of seen_by slot_after slots_after waiters_after
  giving-up t true d e =
      let c = eqb-true m.figures.count 0 d in
      phase-row m p l inv _ t (in-phase _ e)
      (omega (
        arith,
        same_self t,
        known t _ e (owns t) _ refl,
        due-done m.figures.count m.figures.waiters c,
        due-done m.figures.count (m.figures.waiters - 1) c,
      ))
      (omega arith)
      (names-kept m p l inv t _ (Refusing t) (phase-is _ e) (omega arith)) (omega arith) (refl, refl, refl, refl)
  giving-up t false d e =
      let c = not_done m.figures.count d in
      phase-row m p l inv _ t (in-phase _ e)
      (omega (
        arith,
        same_self t,
        known t _ e (owns t) _ refl,
        due-open m.figures.count m.figures.waiters c,
        due-open m.figures.count (m.figures.waiters - 1) c,
        awaiting m inv c,
        one_in inv.tickets live p (Aborting t) refl (phase-is _ e),
      ))
      (omega arith)
      (names-kept m p l inv t _ (Cancelling t) (phase-is _ e) (omega arith)) (omega arith) (refl, refl, refl, refl)

  -- Rows of a hand-over. The party owns no ticket; the owner's stage is what the cell allows.
  module _ (t : ℕ) (e : own-slot.phase ≡ ResumingAt t) where
    below : t < resumed
    below = hand-below inv.tickets p t (phase-is _ e)

    reach : t < TICKETS
    reach = omega (arith, below, near inv.tickets)

    -- the one hand that ticket t has, and what the party bears
    held : (a : Place) → places m t ≡ a
        → AtIn (phases m) issued resumed t a × (1 ≤ sum (hand t) m) × (1 ≤ own-slot.left)
        × (own-slot.left ≤ 32) × (m.figures.count ≡ 0)
        × (slot_sum left m + cell_sum permit_cell m ≤ 32) × (m.figures.waiters ≤ 32)
    unfolding pick is_one_of
    held a i =
        let b = load_of (ResumingAt t) e in (
          here inv.tickets t a i,
          omega (arith, one_in inv.tickets (hand t) p (ResumingAt t) refl (phase-is _ e), same_self t),
          b.0,
          b.1,
          bears-mark (ResumingAt t) e (omega arith),
          inv.borne,
          inv.crowd,
        )

    -- One hand-over used: k are left.
    left_there : (k : ℕ) → own-slot.left - 1 ≡ k → places m t ≡ Empty
        → Good Step p m (ResumingAt t) (put Permit (carry_on k) (Answer.LeftPermit t) (look m p))
    unfolding pick is_one_of is_place_of seen_by slot_after slots_after waiters_after
    left_there zero z i =
        place-row m p l inv _ _ t (in-phase _ e) i reach (omega (arith, same_self t, held Empty i, z))
        tt (omega arith) (refl, ap carry_on z, refl, refl)
    left_there (suc k) z i =
        place-row m p l inv _ _ t (in-phase _ e) i reach (omega (arith, same_self t, held Empty i, z))
        tt (omega arith) (refl, ap carry_on z, refl, refl)

    met-refusal : (k : ℕ) → own-slot.left - 1 ≡ k → places m t ≡ Refused
        → Good Step p m (ResumingAt t) (put Done (carry_on k) (Answer.ResumeRefused t) (look m p))
    unfolding pick is_one_of is_place_of seen_by slot_after slots_after waiters_after
    met-refusal zero z i =
        place-row m p l inv _ _ t (in-phase _ e) i reach (omega (arith, same_self t, held Refused i, z))
        tt (omega arith) (refl, ap carry_on z, refl, refl)
    met-refusal (suc k) z i =
        place-row m p l inv _ _ t (in-phase _ e) i reach (omega (arith, same_self t, held Refused i, z))
        tt (omega arith) (refl, ap carry_on z, refl, refl)

    -- the waiter has given up: the hand-over is left to it
    delegated : (q k : ℕ) → own-slot.left - 1 ≡ k → places m t ≡ WaitedBy q
        → is_waiting (phase_in (phases m) q) ≡ false
        → Good Step p m (ResumingAt t) (put Permit (carry_on k) (Answer.Delegated t) (look m p))
    unfolding pick is_one_of is_place_of seen_by slot_after slots_after waiters_after
    delegated q k z i w = go k z
      where
        gone : (g : Phase) → is_waiting g ≡ false → stand t g ≡ 1
            → (stage t g ≤ 2) × (1 ≤ own t g)
        gone g y o = omega (arith, stage-waiting t g, stand-own t g, ap bit y)

        still : sum (stage t) m ≤ 2
        still =
            let g = gone (phase_in (phases m) q) w (inv.tickets.named t q i) in
            omega (
              arith,
              exact inv.tickets q t (phase_in (phases m) q) refl g.1,
              g.0,
            )

        go : (k : ℕ) → own-slot.left - 1 ≡ k
            → Good Step p m (ResumingAt t) (put Permit (carry_on k) (Answer.Delegated t) (look m p))
        go zero z =
            place-row m p l inv _ _ t (in-phase _ e) i reach
            (omega (arith, same_self t, held (WaitedBy q) i, still, z))
            tt (omega arith) (refl, ap carry_on z, refl, refl)
        go (suc k) z =
            place-row m p l inv _ _ t (in-phase _ e) i reach
            (omega (arith, same_self t, held (WaitedBy q) i, still, z))
            tt (omega arith) (refl, ap carry_on z, refl, refl)

    -- The waiter is woken: as if it gave up, the hand-over were left there, and it took it.
    module _ (q : ℕ) (i : places m t ≡ WaitedBy q) (g : phase_in (phases m) q ≡ Waiting t) (k : ℕ)
        (z : own-slot.left - 1 ≡ k) where
      party : q < m.parties
      party =
          party-in inv.tickets q (Waiting t) g
          (λ z. (let y : ◌≡◌ {A = ℕ} 0 1 = cc in omega arith))

      other : p ≢ q
      other z = let y : ◌≡◌ {A = ℕ} 0 1 = cc (phase-is (ResumingAt t) e) in omega arith

      read-own : (slot_in m.slots q).phase ≡ phase_in (phases m) q
      read-own = unfold read_slot in read-phase m.slots q

      waiter : LatchSlot
      waiter = with_phase (Waiting t) (slot_in m.slots q)

      m₁ : Queue
      m₁ = set-in m q (in_phase (Aborting t)) m.cells m.figures

      m₂ : Queue
      unfolding m₁
      m₂ = set-in m₁ p (carry_on k) (write m₁.cells t (with_place Permit empty_seat)) m.figures

      m₃ : Queue
      unfolding m₁ m₂
      m₃ =
          set-in m₂ q free_slot (write m₂.cells t (with_place Done (look m p).seat)) m.figures

      its-slot : slot_in m.slots q ≡ waiter
      unfolding waiter
      its-slot = λ j.
          record {
            phase = (read-own ∙ g) j;
            raising = (slot_in m.slots q).raising;
            left = (slot_in m.slots q).left;
          }

      its-load : (slot_in m.slots q).left ≡ 0
      unfolding pick is_one_of
      its-load = omega (arith, inv.unloaded q, ap resuming (read-own ∙ g))

      s₁ : ShiftIn m m₁ q waiter (in_phase (Aborting t)) t (WaitedBy q) (WaitedBy q)
      unfolding m₁ waiter
      s₁ =
          shift-phase m q waiter (in_phase (Aborting t)) t (inside inv.tickets q party) its-slot
          (WaitedBy q) m.figures i

      i₁ : Inv m₁
      unfolding m₁ waiter pick is_one_of is_place_of
      i₁ =
          keep m m₁ q waiter (in_phase (Aborting t)) t (WaitedBy q) (WaitedBy q) inv s₁
          (omega (
            arith,
            same_self t,
            exact inv.tickets q t (Waiting t) g (owns t),
            its-load,
            borne-most,
          ))
          (omega arith)
          (names_same q t (Aborting t) (WaitedBy q) (same_self t)) party refl

      s₂ : ShiftIn m₁ m₂ p (now-in (ResumingAt t)) (carry_on k) t (WaitedBy q) Permit
      unfolding m₁ m₂
      s₂ =
          shift-place m₁ p (now-in (ResumingAt t)) (carry_on k) t
          (omega (arith, s₁.phases.size, inside inv.tickets p l))
          (s₁.others p other ∙ in-phase _ e)
          (WaitedBy q) (with_place Permit empty_seat) m.figures i reach

      i₂ : (k' : ℕ) → k ≡ k' → ShiftIn m₁ m₂ p (now-in (ResumingAt t)) (carry_on k') t (WaitedBy q) Permit
          → Inv m₂
      unfolding m₁ m₂ pick is_one_of is_place_of
      i₂ zero y s =
          keep m₁ m₂ p (now-in (ResumingAt t)) (carry_on zero) t (WaitedBy q) Permit i₁ s
          (omega (
            arith,
            same_self t,
            exact i₁.tickets q t (Aborting t) s₁.phases.now (owns t),
            held (WaitedBy q) i,
            i₁.borne,
            z,
            y,
          ))
          (omega arith) tt l refl
      i₂ (suc k') y s =
          keep m₁ m₂ p (now-in (ResumingAt t)) (carry_on (suc k')) t (WaitedBy q) Permit i₁ s
          (omega (
            arith,
            same_self t,
            exact i₁.tickets q t (Aborting t) s₁.phases.now (owns t),
            held (WaitedBy q) i,
            i₁.borne,
            z,
            y,
          ))
          (omega arith) tt l refl

      s₃ : ShiftIn m₂ m₃ q (in_phase (Aborting t)) free_slot t Permit Done
      unfolding m₁ m₂ m₃
      s₃ =
          shift-place m₂ q (in_phase (Aborting t)) free_slot t
          (omega (arith, s₁.phases.size, s₂.phases.size, inside inv.tickets q party))
          (s₂.others q (λ z. other (sym z)) ∙ s₁.now)
          Permit (with_place Done (look m p).seat) m.figures s₂.phases.cell_now reach

      i₃ : Inv m₃
      unfolding m₁ m₂ m₃ pick is_one_of is_place_of
      i₃ =
          let j = i₂ k refl s₂ in
          keep m₂ m₃ q (in_phase (Aborting t)) free_slot t Permit Done j s₃
          (omega (
            arith,
            same_self t,
            exact j.tickets q t (Aborting t) s₃.phases.was (owns t),
            j.borne,
            borne-most,
          ))
          (omega arith) tt party refl

      -- the three at once
      abbrev together : (ℕ → PlaceSlot) → List LatchSlot → Queue
      together c ss = with_parts m.figures c ss m

      abbrev three : Queue
      three =
          together (write m.cells t (with_place Done (look m p).seat))
          (write_slot (write_slot m.slots q free_slot) p (carry_on k))

      at_once : m₃ ≡ three
      unfolding m₁ m₂ m₃ write_slot
      at_once =
          ap
          (λ (c : ℕ → PlaceSlot).
          together c (set (set (set m.slots q (in_phase (Aborting t))) p (carry_on k)) q free_slot))
          (write-twice m.cells t (with_place Permit empty_seat) (with_place Done (look m p).seat))
          ∙ ap (together (write m.cells t (with_place Done (look m p).seat)))
          (set_comm (set m.slots q (in_phase (Aborting t))) p q (carry_on k) free_slot other
          ∙ ap (λ (ss : List LatchSlot). set ss p (carry_on k))
          (set-set m.slots q (in_phase (Aborting t)) free_slot))

      wakes : Good Step p m (ResumingAt t) (wake q t (carry_on k) (look m p))
      unfolding m₁ m₂ m₃ waiter pick is_one_of is_place_of seen_by slot_after slots_after waiters_after read_slot write_slot
      wakes =
          record {
            inv = subst Inv at_once i₃;
            parties = refl;
            reports =
                record {
                  success = refl;
                  moved = ap (λ (n : ℕ). set (set m.slots q free_slot) p (carry_on n)) (sym z);
                  waiters = refl;
                  count = omega arith;
                  freed = omega (arith, bears-mark (ResumingAt t) e (omega arith));
                  begins = omega arith;
                  room =
                      omega (
                        arith,
                        ap (sum drawing) at_once,
                        s₁.phases.sums drawing,
                        s₂.phases.sums drawing,
                        s₃.phases.sums drawing,
                        idle k,
                      );
                };
          }
        where
          idle : (n : ℕ) → drawing (carry_on n).phase ≡ 0
          idle zero = refl
          idle (suc n) = refl

    waits-here : (g : Phase) → is_waiting g ≡ true → stand t g ≡ 1 → g ≡ Waiting t
    unfolding pick is_one_of
    waits-here g y o =
        let w = one_of (Waiting 0) g y in
        w ∙ ap Waiting (same-eq (ticket_of g) t (omega (arith, ap (stand t) w)))

    handing : (a : Place) → places m t ≡ a → (look m p).seat.place ≡ a
        → Good Step p m (ResumingAt t) (step_resuming_at t a (look m p))
    unfolding step_resuming_at resume_waiter pick is_one_of is_place_of seen_by slot_after slots_after waiters_after
    handing Empty i j = left_there _ refl i
    handing (WaitedBy q) i j = go (is_waiting (look m p).waiter.phase) refl
      where
        same-waiter : (look m p).waiter.phase ≡ phase_in (phases m) q
        same-waiter =
            ap (λ (a : Place). (by_waiter free_slot (read_slot m.slots) a).phase) j
            ∙ read-phase m.slots q

        go : (b : Bool) → is_waiting (look m p).waiter.phase ≡ b
            → Good Step p m (ResumingAt t) (resume_waiter b q t (look m p))
        go true y =
            wakes q i
            (waits-here (phase_in (phases m) q) (sym (ap is_waiting same-waiter) ∙ y)
            (inv.tickets.named t q i)) _ refl
        go false y = delegated q _ refl i (sym (ap is_waiting same-waiter) ∙ y)
    handing Cancelled i j =
        place-row m p l inv _ _ t (in-phase _ e) i reach (omega (arith, same_self t, held Cancelled i))
        tt (omega arith) (refl, refl, refl, refl)
    handing Refused i j = met-refusal _ refl i
    handing Permit i j =
        let b : ⊥ = omega (arith, held Permit i, lt-le t resumed) in absurd b
    handing Done i j =
        let b : ⊥ = omega (arith, held Done i, lt-le t resumed) in absurd b

  -- Nobody holds.
  none-holds : (f : Phase) → own-slot.phase ≡ f → holding f ≡ 1 → ⊥
  unfolding read_slot
  none-holds f e h = omega (arith, inv.unheld p, ap holding e)

  -- The place that a party sees is the cell of its ticket.
  seen : (f : Phase) → own-slot.phase ≡ f
      → (look m p).seat.place ≡ (by_ticket empty_seat m.cells f).place
  unfolding seen_by
  seen f e = ap (λ (g : Phase). (by_ticket empty_seat m.cells g).place) e

  abbrev StepGood : Phase → Type 0
  StepGood f = own-slot.phase ≡ f → Good Step p m f (step_in f (look m p))

  step-good : (f : Phase) → StepGood f
  unfolding step_in seen_by is_one_of pick
  step-good f = go (is_one_of HUB_ONLY f) refl
    where
      others : (f : Phase) → is_one_of (all_others HUB_ONLY) f ≡ not (is_one_of HUB_ONLY f)
      others =
          phases-alike (is_one_of (all_others HUB_ONLY)) (λ f. not (is_one_of HUB_ONLY f)) (λ t. refl)

      go : (b : Bool) → is_one_of HUB_ONLY f ≡ b → StepGood f
      go true i = λ e. absurd (none-holds f e (ap (λ (b : Bool). cond b 1 0) i))
      go false i =
          each_of StepGood (all_others HUB_ONLY)
          (λ t. (
            λ e. refl,
            (
              λ e. refl,
              (
                asks _ _ refl refl,
                (
                  unnumbered,
                  (
                    λ e. numbered t _ (sym (seen (Ticketed t) e)) e,
                    (
                      giving-up t _ refl,
                      (
                        λ e. cancelling t _ (sym (seen (Cancelling t) e)) e,
                        (
                          λ e. refusing t _ (sym (seen (Refusing t) e)) e,
                          (
                            giving-back _ refl,
                            (
                              carrying,
                              (
                                λ e. handing t e _ (sym (seen (ResumingAt t) e)) refl,
                                (
                                  asks-marked _ _ refl refl,
                                  (
                                    unnumbered-marked,
                                    (λ e. numbered-marked t _ (sym (seen (TicketedMarked t) e)) e, tt),
                                  ),
                                ),
                              ),
                            ),
                          ),
                        ),
                      ),
                    ),
                  ),
                ),
              ),
            ),
          ))
          f (others f ∙ ap not i)

  -- The other calls.
  abbrev phase : Phase
  phase = own-slot.phase

  await-good : (a b : Bool) → is_free phase ≡ a → leb MAX_BEGUN m.figures.begun ≡ b
      → Good Await p m phase (await a b false (look m p))
  unfolding await pick is_one_of is_place_of seen_by slot_after slots_after waiters_after
  await-good false b e i = refl
  await-good true true e i = refl
  await-good true false e i =
      let j = leb-false MAX_BEGUN m.figures.begun i in
      let f = one_of Free phase e in
      phase-row m p l inv _ issued (in-phase Free f)
      (omega (arith, inv.tickets.at issued, load_of Free f, borne-most)) (omega arith)
      (names-kept m p l inv issued _ Acquiring (phase-is Free f) (omega arith)) (omega arith)
      (refl, refl, refl, refl)

  -- A wait is given up; before it the give-up is remembered.
  abbrev GivesUp : Phase → Type 0
  GivesUp f = phase ≡ f → Good Cancel p m f (cancel true false (given_up f) (look m p))

  gives_up : (f : Phase) → can_cancel f ≡ true → GivesUp f
  unfolding cancel given_up pick is_one_of is_place_of seen_by slot_after slots_after waiters_after
  gives_up =
      can-cancel GivesUp
      (λ t f. phase-row m p l inv _ t (in-phase _ f)
      (omega (arith, same_self t, known t _ f (owns t) _ refl, least-le (places m t)))
      (omega arith) (names-kept m p l inv t _ (Aborting t) (phase-is _ f) (omega arith)) (omega arith)
      (refl, refl, refl, refl))
      (λ f. phase-row m p l inv _ issued (in-phase _ f)
      (omega (arith, inv.tickets.at issued, load_of _ f, borne-most)) (omega arith)
      (names-kept m p l inv issued _ AcquiringMarked (phase-is _ f) (omega arith)) (omega arith)
      (refl, refl, refl, refl))
      (λ f. phase-row m p l inv _ issued (in-phase _ f)
      (omega (arith, inv.tickets.at issued, load_of _ f, borne-most)) (omega arith)
      (names-kept m p l inv issued _ SuspendingMarked (phase-is _ f) (omega arith)) (omega arith)
      (refl, refl, refl, refl))
      (λ t f. phase-row m p l inv _ t (in-phase _ f)
      (omega (arith, same_self t, known t _ f (owns t) _ refl)) (omega arith)
      (names-kept m p l inv t _ (TicketedMarked t) (phase-is _ f) (omega arith)) (omega arith)
      (refl, refl, refl, refl))

  cancel-good : (a b : Bool) → can_cancel phase ≡ a
      → Good Cancel p m phase (cancel a b (given_up phase) (look m p))
  unfolding cancel
  cancel-good false b e = refl
  cancel-good true true e = refl
  cancel-good true false e = gives_up phase e refl

  count-down-good : (a : Bool) → is_free phase ≡ a → Good CountDown p m phase (count_down a (look m p))
  unfolding count_down pick is_one_of is_place_of seen_by slot_after slots_after waiters_after
  count-down-good false e = refl
  count-down-good true e =
      let f = one_of Free phase e in
      phase-row m p l inv _ issued (in-phase Free f)
      (omega (arith, inv.tickets.at issued, load_of Free f, borne-most)) (omega arith)
      (names-kept m p l inv issued _ Releasing (phase-is Free f) (omega arith)) (omega arith)
      (refl, refl, refl, refl)

  pub decide-good : (o : LatchOp) → Good o p m (look m p).slot.phase (decide o false (look m p))
  unfolding decide seen_by
  decide-good Await = await-good _ _ refl refl
  decide-good Step = step-good _ refl
  decide-good Cancel = cancel-good _ _ refl
  decide-good CountDown = count-down-good _ refl
