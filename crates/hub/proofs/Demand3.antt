-- The third demand, that every record reached fits, and that the hub refines the queue.
use Prim.Native.Nat.{ℕ, ◌+◌, ◌-◌, ◌%◌, ◌≤◌, ◌<◌}
use mathlib.Core.Path.{◌≡◌, refl, sym, ap, ap₂, subst, ◌∙◌}
use mathlib.Core.Bool.{Bool, true, false, cond}
use mathlib.Core.List.{List, [], ◌∷◌}
use native.Mathlib.Omega.{arith}
use borrow.Author.Tests.{leb-true, eqb-true, lt-ltb}
use lib.Dec.{leb}
use lib.ListN.{length}
use Rattle.hub.specs.declared.answers.Answer.{Answer}
use Rattle.hub.specs.declared.moves.Call.{Call}
use Rattle.hub.specs.declared.opening.Opening.{Opening}
use Rattle.hub.specs.declared.record.Outcome.{Outcome}
use Rattle.hub.specs.declared.record.Figures.{Figures}
use Rattle.hub.specs.declared.record.Hub.{Hub}
use Rattle.hub.specs.declared.record.Phase.{Phase}
use Rattle.hub.specs.declared.record.Place.{Place}
use Rattle.hub.specs.declared.record.PlaceSlot.{PlaceSlot}
use Rattle.hub.specs.Answers.{printed}
use Rattle.hub.specs.Basics.{bit, weight, count, up_to32}
use Rattle.hub.specs.Calls.{called, move_of}
use Rattle.hub.specs.Counts.{counts_of, CountsAddUp}
use Rattle.hub.specs.Demand3.{Accounts, Calm, Demand3, ReachedFits}
use Rattle.hub.specs.Ledger.{Ledger, opened, phase_in, enter, ledger, at_counter}
use Rattle.hub.specs.Look.{look}
use Rattle.hub.specs.Opening.{fresh, opening, radios_differ, tests}
use Rattle.hub.specs.Fits.{kinds_fit}
use Rattle.hub.specs.Phases.{is_one_of, is_place_of, is_unserved, holds, resumes, refuses}
use Rattle.hub.specs.Queue.{Queue, phases}
use Rattle.hub.specs.Queue as queue
use Rattle.hub.specs.Record.{PARTIES, empty_seat, phases_of, places_of}
use Rattle.hub.specs.Refinement.{Window, Shows, is_seven, heard, without_sevens, Refines}
use Rattle.hub.specs.Ring.{PLACES, read_seat}
use Rattle.hub.specs.Schedule.{run, answers, entries}
use Rattle.hub.proofs.Laws.Bools.{first, second, if-true}
use Rattle.hub.proofs.Laws.Opening.{by-opened, each-passed, ends, kinds-fit}
use Rattle.hub.proofs.Laws.Lists.{weight-add, weight-map, weight-replicate, weight-same}
use Rattle.hub.proofs.Laws.Phases.{every-phase}
use Rattle.hub.proofs.Laws.Ranges.{sum_from, sum-zero, sum_same, sum-split, sum-rotate}
use Rattle.hub.proofs.Laws.Ranges.{sum-list}
use Rattle.hub.proofs.Laws.Seats.{fresh-seat, next-round, read-index}
use Rattle.hub.proofs.Invariant.Weights.{up, down, pick, count-pick, holding, resuming, refusing}
use Rattle.hub.proofs.Invariant.Weights.{drawing, suspending, live, permit_cell, refused_cell, sum, cell_sum}
use Rattle.hub.proofs.Invariant.Weights.{total, TICKETS}
use Rattle.hub.proofs.Invariant.Tickets.{near}
use Rattle.hub.proofs.Invariant.Keep.{permits}
use Rattle.hub.proofs.Invariant.Walk.{all_more}
use Rattle.hub.proofs.Invariant.Rest.{Settled, rest-settled, standing}
use Rattle.hub.proofs.Invariant.Schedules.{Agrees, entered, next-good}
use Rattle.hub.proofs.Invariant.Schedules.{fresh-inv, fresh-agrees}
use Rattle.hub.proofs.Invariant.Held.{held-most, way-whole, all_held}
use Rattle.hub.proofs.Radios.Kept.{fresh_kept}
use Rattle.hub.proofs.Window.Tracked.{low}
use Rattle.hub.proofs.Window.Shown.{Reached, Tracks, tracked}
use Rattle.hub.proofs.Window.Reached.{reached-fits}
use Rattle.hub.proofs.Window.Followed.{Follows, follows, called-reached}

-- An opening that is accepted is within bounds, and its record is fresh.
pub record InRange (o : Opening) : Type 0 where
  pub permits : (1 ≤ o.permits) × (o.permits ≤ 32)
  pub parties : (1 ≤ o.parties) × (o.parties ≤ 32)
  pub differ : radios_differ o ≡ true
  pub kinds : kinds_fit o ≡ true
  pub hub : (opening o).hub ≡ fresh o

pub in-range : (o : Opening) → (opening o).answer ≡ Answer.Opened → InRange o
in-range o e =
    let z = by-opened o _ _ (ends o (tests o)) e in
    let each = each-passed o z.0 in
    record {
      permits = range o.permits (each 0);
      parties = range o.parties (each 1);
      differ = each 2;
      kinds = kinds-fit o (each 3) (each 4) (each 5);
      hub = ap (λ (x : Outcome). x.hub) z.1;
    }
  where
    range : (x : ℕ) → up_to32 x ≡ true → (1 ≤ x) × (x ≤ 32)
    range x e = (leb-true 1 x (first (leb 1 x) _ e), leb-true x 32 (second (leb 1 x) _ e))

-- A fresh record shows a fresh queue.
fresh-tracks : (o : Opening) → 1 ≤ o.parties → o.parties ≤ PARTIES
    → Tracks o.permits (fresh o) (queue.fresh o)
unfolding fresh queue.fresh pick is_one_of
fresh-tracks o a b =
    record {
      permits = refl;
      size = refl;
      inv = fresh-inv o a b;
      room = omega (arith, weight-replicate drawing Phase.Free refl PARTIES);
      shows =
          record {
            opening = refl;
            figures = refl;
            slots = refl;
            pool = refl;
            window =
                record {
                  before = λ t i. (let z : ⊥ = omega arith in absurd z);
                  within = λ t i j. sym (fresh-seat t);
                  beyond = λ t i. refl;
                };
          };
    }

-- A 7 moves nobody.
seven-same : (e : Ledger) (c : Call) (r : Answer) → is_seven r ≡ true → entered e c r ≡ e
unfolding enter
seven-same e c r i =
    if-true _ e _ (lt-ltb (printed r).code 0x20 (omega (arith, eqb-true (printed r).code 7 i)))

-- Whatever a schedule does, its record is reached, and the ledger of its entries agrees with the
-- queue that the record shows.
module _ (k : ℕ) (k₁ : 1 ≤ k) (k₂ : k ≤ 32) where
  pub record Account (h : Hub) (e : Ledger) : Type 0 where
    pub queue : Queue
    pub reached : Reached k h queue
    pub agrees : Agrees e queue

  one-call : (h : Hub) (e : Ledger) (c : Call) → Account h e
      → Account (called h c).hub (entered e c (called h c).answer)
  one-call h e c x = go (is_seven (called h c).answer) refl
    where
      f : Follows k h x.queue c (look h c.party) (move_of h c)
      f = follows k h x.queue x.reached c k₁ k₂

      go : (b : Bool) → is_seven (called h c).answer ≡ b
          → Account (called h c).hub (entered e c (called h c).answer)
      go true i =
          record {
            queue = x.queue;
            reached =
                subst (λ (g : Hub). Reached k g x.queue) (sym (f.seven i)) x.reached;
            agrees =
                subst (λ (l : Ledger). Agrees l x.queue) (sym (seven-same e c (called h c).answer i))
                x.agrees;
          }
      go false i =
          let a = f.alike i in
          let n = next-good k x.queue x.reached.tracks.inv c e x.agrees in
          record {
            queue = queue.next x.queue c;
            reached = called-reached k h x.queue x.reached c _ a.0;
            agrees =
                subst (λ (r : Answer). Agrees (entered e c r) (queue.next x.queue c))
                (sym a.1) n.1;
          }

  every_call : (h : Hub) (e : Ledger) (cs : List Call) → Account h e
      → Account (run h cs) (ledger e (entries h cs))
  unfolding run ledger entries
  every_call h e [] x = x
  every_call h e (c ∷ cs) x = every_call (called h c).hub _ cs (one-call h e c x)

-- A count of cells that are neither empty nor done is the count over the places.
ring-sum : (o : ℕ) (l : List PlaceSlot) (g : ℕ → PlaceSlot) → Window o l g → length l ≡ PLACES
    → o + PLACES ≤ TICKETS → (w : Place → ℕ) → w Place.Empty ≡ 0 → w Place.Done ≡ 0
    → total w (λ t. (g t).place) ≡ weight w (places_of l)
ring-sum o l g v s b w x y =
    omega (
      arith,
      sum-split f 0 o (PLACES + rest) TICKETS (omega arith),
      sum-split f (0 + o) PLACES rest (PLACES + rest) refl,
      sum-zero f 0 o (λ t i j. ap w (v.before t (omega arith)) ∙ y),
      sum-zero f (0 + o + PLACES) rest (λ t i j. ap at (v.beyond t (omega arith)) ∙ x),
      sum_same f z (0 + o) PLACES (λ t i j. ap at (v.within t (omega arith) (omega arith))),
      sum-rotate z PLACES (λ t. ap at (next-round l t)) (0 + o),
      subst (λ (n : ℕ). sum_from z 0 n ≡ weight at l) s
          (sum-list at empty_seat l 0 z
          (λ j i. ap at (sym (read-index l (0 + j) j (small j (subst (λ (n : ℕ). j < n) s i)))))),
      weight-map w (λ (q : PlaceSlot). q.place) l,
    )
  where
    at : PlaceSlot → ℕ
    at q = w q.place

    f : ℕ → ℕ
    f t = w (g t).place

    z : ℕ → ℕ
    z t = w (read_seat l t).place

    rest : ℕ
    rest = TICKETS - (o + PLACES)

    small : (j : ℕ) → j < PLACES → j ≡ (0 + j) % PLACES
    small j i = omega arith

pub ring-count : (k : ℕ) (h : Hub) (m : Queue) → Tracks k h m → (w : Place → ℕ)
    → w Place.Empty ≡ 0 → w Place.Done ≡ 0 → cell_sum w m ≡ weight w (places_of h.places)
ring-count k h m r w =
    ring-sum h.control.oldest h.places m.cells r.shows.window r.size
    (omega (arith, low (tracked r), near r.inv.tickets)) w

-- The unserved waits are those that will draw a ticket and those that live with one.
unserved-count : (l : List Phase) → count is_unserved l ≡ weight suspending l + weight live l
unfolding pick is_one_of
unserved-count l =
    weight-same (λ f. bit (is_unserved f)) (λ f. suspending f + live f)
    (every-phase (λ f. bit (is_unserved f) ≡ suspending f + live f) (λ t. omega arith)) l
    ∙ weight-add suspending live l

-- What the account of a schedule comes to.
accounts : (k : ℕ) (h : Hub) (m : Queue) (e : Ledger) → Tracks k h m → Agrees e m
    → Accounts k e h
unfolding is_place_of
accounts k h m e r a =
    let bring : count (is_one_of (Phase.Resuming ∷ Phase.ResumingAt 0 ∷ [])) e.phases
    ≡ sum resuming m =
    count-pick _ e.phases ∙ ap (weight resuming) a.replayed in
    let decline : count (is_one_of (Phase.Refusing 0 ∷ [])) e.phases ≡ sum refusing m =
    count-pick _ e.phases ∙ ap (weight refusing) a.replayed in
    let hold : count (is_one_of (Phase.Holding ∷ Phase.Releasing ∷ Phase.Fetching ∷ [])) e.phases
    ≡ sum holding m =
    count-pick _ e.phases ∙ ap (weight holding) a.replayed in
    let whole = way-whole k m r.inv in
    record {
      sum =
          omega (
            arith,
            a.held,
            a.permits,
            a.refusals,
            permits k m r.inv,
            bring,
            decline,
            ap up a.counter,
            whole,
          );
      unserved =
          omega (
            arith,
            a.permits,
            a.refusals,
            r.inv.tickets.balance,
            bring,
            decline,
            ap down a.counter,
            whole,
            unserved-count e.phases,
            ap (weight suspending) a.replayed,
            ap (weight live) a.replayed,
          );
      held_whole = omega (arith, a.held);
      permits_whole = omega (arith, a.permits);
      refused_whole = omega (arith, a.refusals);
      way_whole = omega (arith, a.permits, a.refusals, bring, decline, whole);
      phases = ap phases_of r.shows.slots ∙ sym a.replayed;
      counter = ap (λ (f : Figures). f.counter) r.shows.figures ∙ sym a.counter;
      permits =
          omega (
            arith,
            a.permits,
            ring-count k h m r permit_cell refl refl,
          );
      refusals =
          omega (
            arith,
            a.refusals,
            ring-count k h m r refused_cell refl refl,
          );
      holders = omega (arith, a.held, hold);
      most = omega (arith, a.held, held-most k m r.inv);
      calm = λ q p t i.
          let rest : Settled (phases m) = λ j. rest-settled _ (subst Calm a.replayed q j) in
          let z : phase_in (phases m) p ≡ Phase.Waiting t =
          ap (λ (l : List Phase). phase_in l p) (sym a.replayed) ∙ i in (
            omega (arith, a.held, all_held k m r.inv rest p t z),
            all_more m.figures.resumed t (standing r.inv.tickets rest p t z) e.served a.served,
          );
    }

-- From an accepted opening.
module _ (o : Opening) (e : (opening o).answer ≡ Answer.Opened) where
  pub start : InRange o
  start = in-range o e

  first-reached : Reached o.permits (opening o).hub (queue.fresh o)
  first-reached =
      subst (λ (h : Hub). Reached o.permits h (queue.fresh o)) (sym start.hub)
      (record {
        tracks = fresh-tracks o start.parties.0 start.parties.1;
        differ = unfold fresh in start.differ;
        kinds = unfold fresh in start.kinds;
        radios = λ n. fresh_kept o start.permits.1;
      })

  pub schedule : (cs : List Call)
      → Account o.permits start.permits.0 start.permits.1 (run (opening o).hub cs)
      (ledger (opened o) (entries (opening o).hub cs))
  schedule cs =
      every_call o.permits start.permits.0 start.permits.1 (opening o).hub (opened o) cs
      (record
      { queue = queue.fresh o; reached = first-reached; agrees = fresh-agrees o })

pub demand3 : Demand3
unfolding Demand3
demand3 o e cs =
    let x = schedule o e cs in
    accounts o.permits _ x.queue _ x.reached.tracks x.agrees

pub every-record-fits : ReachedFits
unfolding ReachedFits
every-record-fits o e cs =
    let x = schedule o e cs in
    let s = start o e in
    reached-fits o.permits _ x.queue x.reached s.permits.0 s.permits.1

-- The queue on the calls that were heard gives the other answers, and the record shows it.
module _ (k : ℕ) (k₁ : 1 ≤ k) (k₂ : k ≤ 32) where
  refined : (h : Hub) (m : Queue) (cs : List Call) → Reached k h m
      → Shows (run h cs) (queue.run m (heard h cs))
      × (without_sevens (answers h cs) ≡ queue.answers m (heard h cs))
  unfolding run answers heard without_sevens queue.run queue.answers
  refined h m [] r = (r.tracks.shows, refl)
  refined h m (c ∷ cs) r =
      go (is_seven (called h c).answer) refl
      (λ e. refined (called h c).hub m cs
      (subst (λ (g : Hub). Reached k g m) (sym (f.seven e)) r))
      (λ e. refined (called h c).hub (queue.next m c) cs
      (called-reached k h m r c _ (f.alike e).0))
    where
      f : Follows k h m c (look h c.party) (move_of h c)
      f = follows k h m r c k₁ k₂

      rest : List Call
      rest = heard (called h c).hub cs

      others : List Answer
      others = without_sevens (answers (called h c).hub cs)

      go : (b : Bool) → is_seven (called h c).answer ≡ b
          → (is_seven (called h c).answer ≡ true
          → Shows (run (called h c).hub cs) (queue.run m rest) × (others ≡ queue.answers m rest))
          → (is_seven (called h c).answer ≡ false
          → Shows (run (called h c).hub cs) (queue.run (queue.next m c) rest)
          × (others ≡ queue.answers (queue.next m c) rest))
          → Shows (run (called h c).hub cs) (queue.run m (cond b rest (c ∷ rest)))
          × (cond b others ((called h c).answer ∷ others) ≡ queue.answers m (cond b rest (c ∷ rest)))
      go true e x y = x e
      go false e x y = ((y e).0, ap₂ ◌∷◌ (f.alike e).1 (y e).1)

pub refines : Refines
unfolding Refines
refines o e cs =
    let s = start o e in
    refined o.permits s.permits.0 s.permits.1 (opening o).hub (queue.fresh o) cs
    (first-reached o e)

-- What the record shows is what the ledger says.
pub counts-add-up : CountsAddUp
unfolding CountsAddUp counts_of Demand3
counts-add-up o i cs =
    let d = demand3 o i cs in
    let h = run (opening o).hub cs in
    let e = ledger (opened o) (entries (opening o).hub cs) in
    let hold : count holds (phases_of h.slots) ≡ count holds e.phases =
    ap (count holds) d.phases in
    let bring : count resumes (phases_of h.slots) ≡ count resumes e.phases =
    ap (count resumes) d.phases in
    let decline : count refuses (phases_of h.slots) ≡ count refuses e.phases =
    ap (count refuses) d.phases in (
      omega (
        arith,
        d.sum,
        d.holders,
        d.permits,
        d.refusals,
        hold,
        bring,
        decline,
        ap at_counter d.counter,
      ),
      omega (arith, d.way_whole, d.permits, d.refusals, bring, decline),
    )
