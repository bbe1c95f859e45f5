-- What is claimed of every schedule of a latch.
use Prim.Native.Nat.{ℕ, zero, suc, ◌+◌, ◌-◌, ◌%◌, ◌≤◌, ◌<◌}
use mathlib.Core.Path.{◌≡◌, refl, sym, ap, ap₂, subst, ◌∙◌}
use mathlib.Core.Bool.{Bool, true, false, cond, ◌||◌}
use mathlib.Core.List.{List, [], ◌∷◌}
use native.Mathlib.Omega.{arith}
use borrow.Author.Tests.{eqb-true, lt-ltb, ltb-true, ne_eqb}
use lib.Dec.{ltb}
use lib.ListN.{get_or, replicate}
use Rattle.hub.specs.declared.answers.Answer.{Answer}
use Rattle.hub.specs.declared.record.Phase.{Phase}
use Rattle.hub.specs.Answers.{printed}
use Rattle.hub.specs.Basics.{bit}
use Rattle.hub.specs.Phases.{at_rest, is_one_of}
use Rattle.hub.specs.Record.{PARTIES, empty_seat}
use Rattle.hub.specs.Refinement.{is_seven, without_sevens}
use Rattle.hub.specs.Ring.{PLACES, read_seat}
use Rattle.hub.proofs.Laws.Bools.{if-true, second}
use Rattle.hub.proofs.Laws.Lists.{weight-replicate}
use Rattle.hub.proofs.Invariant.Weights.{drawing, pick}
use Rattle.latch.specs.declared.moves.LatchCall.{LatchCall}
use Rattle.latch.specs.declared.moves.LatchOp.{LatchOp}
use Rattle.latch.specs.declared.moves.LatchSight.{LatchSight}
use Rattle.latch.specs.declared.record.Latch.{Latch}
use Rattle.latch.specs.declared.record.LatchSlot.{LatchSlot}
use Rattle.latch.specs.Calls.{answer_of, called, checked, move_of}
use Rattle.latched.specs.Claims.{NobodyEarly, NobodyLeft, NoneEarly, NoStepRefused, ReachedFits}
use Rattle.latched.specs.Claims.{lets_go, step_by}
use Rattle.latch.specs.Ledger.{Ledger, count_in, enter, is_down, ledger, opened, slot_in, succeeded}
use Rattle.latch.specs.Look.{look, seen_by}
use Rattle.latch.specs.Moves.{Move}
use Rattle.latch.specs.Moves.{Refuse, Act, Put, Wake}
use Rattle.latch.specs.Opening.{Start, fresh, opening}
use Rattle.latch.specs.Queue.{Queue}
use Rattle.latch.specs.Queue as queue
use Rattle.latched.specs.Refinement.{Shows, heard, Refines}
use Rattle.latch.specs.Schedule.{run, answers, entries}
use Rattle.latch.specs.Table.{decide}
use Rattle.latch.proofs.Laws.Opening.{in-range}
use Rattle.latched.proofs.Invariant.Rest.{nobody-waits}
use Rattle.latched.proofs.Invariant.Rows.{Good, is_listed}
use Rattle.latched.proofs.Invariant.Schedules.{Agrees, entered, move-good, next-good}
use Rattle.latched.proofs.Invariant.Schedules.{fresh-inv, fresh-agrees}
use Rattle.latched.proofs.Window.Shown.{Tracks, look-same}
use Rattle.latched.proofs.Window.Reached.{reached-fits}
use Rattle.latched.proofs.Window.Followed.{Follows, follows}

-- A fresh record shows a fresh queue.
fresh-tracks : (c n : ℕ) → 1 ≤ n → n ≤ PARTIES → c ≤ 200 → Tracks (fresh c n) (queue.fresh c n)
unfolding fresh queue.fresh read_seat pick is_one_of
fresh-tracks c n a b d =
    record {
      size = refl;
      inv = fresh-inv c n a b d;
      room = omega (arith, weight-replicate drawing Phase.Free refl PARTIES);
      shows =
          record {
            parties = refl;
            figures = refl;
            slots = refl;
            window =
                record {
                  before = λ t i. (let z : ⊥ = omega arith in absurd z);
                  within = λ t i j. sym (bare PLACES (t % PLACES));
                  beyond = λ t i. refl;
                };
          };
    }
  where
    bare : (n i : ℕ) → get_or (replicate n empty_seat) i empty_seat ≡ empty_seat
    bare zero i = refl
    bare (suc n) zero = refl
    bare (suc n) (suc i) = bare n i

-- A 7 moves nobody, and lets nobody go.
seven-same : (e : Ledger) (c : LatchCall) (r : Answer) → is_seven r ≡ true → entered e c r ≡ e
unfolding enter
seven-same e c r i =
    if-true _ e _ (lt-ltb (printed r).code 0x20 (omega (arith, eqb-true (printed r).code 7 i)))

seven-keeps : (r : Answer) → is_seven r ≡ true → bit (lets_go (printed r).code) ≡ 0
seven-keeps r i = ap (λ (x : ℕ). bit (lets_go x)) (eqb-true (printed r).code 7 i)

-- No refusal is a count-down.
no-down : (x : ℕ) → x < 0x20 → bit (is_down x) ≡ 0
no-down x i =
    ap₂ (λ (a b : Bool). bit (a || (b || false))) (ne_eqb x 0x26 (omega arith))
    (ne_eqb x 0x27 (omega arith))

-- The ledger's count-downs are those of the entries.
downs-after : (e : Ledger) (c : LatchCall) (r : Answer)
    → (entered e c r).downs ≡ e.downs + bit (is_down (printed r).code)
unfolding enter
downs-after e c r = go (ltb (printed r).code 0x20) refl
  where
    none : (d k : ℕ) → k ≡ 0 → d ≡ d + k
    none d k z = omega arith

    go : (b : Bool) → ltb (printed r).code 0x20 ≡ b
        → (cond b e (succeeded c.op c.party (printed r) e)).downs ≡ e.downs + bit (is_down (printed r).code)
    go false i = refl
    go true i = none e.downs _ (no-down (printed r).code (ltb-true (printed r).code 0x20 i))

-- Whatever a schedule does, its record shows a queue, with which the ledger of its entries agrees. N is c.
module _ (c : ℕ) where
  pub record Account (h : Latch) (e : Ledger) : Type 0 where
    pub queue : Queue
    pub tracks : Tracks h queue
    pub agrees : Agrees c e queue

  -- One call, and that nobody is let go by it before the mark.
  one-call : (h : Latch) (e : Ledger) (x : LatchCall) → Account h e
      → Account (called h x).latch (entered e x (called h x).answer)
      × (bit (lets_go (printed (called h x).answer).code) ≤ 1 - count_in c e)
  one-call h e x a = go (is_seven (called h x).answer) refl
    where
      f : Follows h a.queue x (look h x.party) (move_of h x)
      f = follows h a.queue a.tracks x

      go : (b : Bool) → is_seven (called h x).answer ≡ b
          → Account (called h x).latch (entered e x (called h x).answer)
          × (bit (lets_go (printed (called h x).answer).code) ≤ 1 - count_in c e)
      go true i = (
        record {
          queue = a.queue;
          tracks = subst (λ (g : Latch). Tracks g a.queue) (sym (f.seven i)) a.tracks;
          agrees =
              subst (λ (l : Ledger). Agrees c l a.queue) (sym (seven-same e x (called h x).answer i))
              a.agrees;
        },
        omega (arith, seven-keeps (called h x).answer i),
      )
      go false i =
          let w = f.alike i in
          let k = next-good c a.queue a.tracks.inv x e a.agrees in (
            record {
              queue = queue.next a.queue x;
              tracks = w.0;
              agrees =
                  subst (λ (r : Answer). Agrees c (entered e x r) (queue.next a.queue x))
                  (sym w.1) k.agrees;
            },
            omega (
              arith,
              k.freed,
              a.agrees.count,
              ap (λ (r : Answer). bit (lets_go (printed r).code)) w.1,
            ),
          )

  every_call : (h : Latch) (e : Ledger) (cs : List LatchCall) → Account h e
      → Account (run h cs) (ledger e (entries h cs))
  unfolding run entries ledger
  every_call h e [] a = a
  every_call h e (x ∷ cs) a = every_call (called h x).latch _ cs (one-call h e x a).0

  none-early : (h : Latch) (e : Ledger) (cs : List LatchCall) → Account h e
      → NoneEarly c e.downs (entries h cs)
  unfolding NoneEarly entries
  none-early h e [] a = tt
  none-early h e (x ∷ cs) a =
      let k = one-call h e x a in (
        λ i. omega (arith, k.1, ap bit i),
        subst (λ (d : ℕ). NoneEarly c d (entries (called h x).latch cs))
            (downs-after e x (called h x).answer) (none-early (called h x).latch _ cs k.0),
      )

-- From an opening.
module _ (c n : ℕ) (o : (opening c n).start ≡ Start.Opened) where
  first-tracks : Tracks (opening c n).latch (queue.fresh c n)
  first-tracks =
      let r = in-range c n o in
      subst (λ (h : Latch). Tracks h (queue.fresh c n)) (sym r.latch)
      (fresh-tracks c n r.parties.0 r.parties.1 r.count.1)

  start : Account c (opening c n).latch opened
  start = record { queue = queue.fresh c n; tracks = first-tracks; agrees = fresh-agrees c n }

  pub schedule : (cs : List LatchCall)
      → Account c (run (opening c n).latch cs) (ledger opened (entries (opening c n).latch cs))
  schedule cs = every_call c (opening c n).latch opened cs start

pub nobody-early : NobodyEarly
unfolding NobodyEarly
nobody-early c n o cs = none-early c (opening c n).latch opened cs (start c n o)

pub nobody-left : NobodyLeft
unfolding NobodyLeft
nobody-left c n o cs =
    let x = schedule c n o cs in
    let a = x.agrees in
    let e = ledger opened (entries (opening c n).latch cs) in
    record {
      slots = x.tracks.shows.slots ∙ sym a.replayed;
      count = ap (λ f. f.count) x.tracks.shows.figures ∙ sym a.count;
      waiters = ap (λ f. f.waiters) x.tracks.shows.figures ∙ sym a.waiters;
      released = λ z rest p t i.
          nobody-waits x.queue x.tracks.inv
          (λ q. sym (ap (λ (l : List LatchSlot). at_rest (slot_in l q).phase) a.replayed) ∙ rest q)
          (sym a.count ∙ z) p t
          (sym (ap (λ (l : List LatchSlot). (slot_in l p).phase) a.replayed) ∙ i);
    }

pub every-record-fits : ReachedFits
unfolding ReachedFits
every-record-fits c n o cs = let x = schedule c n o cs in reached-fits _ x.queue x.tracks

-- A good move refuses the step of no busy party.
granted : (m : Queue) (p : ℕ) (f : Phase) (v : Move) → at_rest f ≡ false → Good LatchOp.Step p m f v
    → ltb (printed (answer_of v)).code 0x20 ≡ false
granted m p f (Refuse r) b g =
    let y : true ≡ false = sym (second (is_listed (Refuse r)) _ g) ∙ b in
    let z : ◌≡◌ {A = ℕ} 0 1 = cc in let w : ⊥ = omega arith in absurd w
granted m p f (Act c) b g = g.reports.success
granted m p f (Put a c) b g = g.reports.success
granted m p f (Wake q s a c) b g = g.reports.success

-- A step of the record is the queue's.
step_same : (h : Latch) (m : Queue) (p : ℕ) → Tracks h m
    → move_of h (step_by p) ≡ queue.move_of m (step_by p)
unfolding decide
step_same h m p r = λ i.
    checked (reached-fits h m r i) (ltb p (r.shows.parties i))
    (decide LatchOp.Step false (look-same h m r p i))

pub no-step-refused : NoStepRefused
unfolding NoStepRefused
no-step-refused c n o cs p b =
    let x = schedule c n o cs in
    let h = run (opening c n).latch cs in
    ap (λ (v : Move). ltb (printed (answer_of v)).code 0x20) (step_same h x.queue p x.tracks)
    ∙ granted x.queue p _ (queue.move_of x.queue (step_by p))
    (sym (ap (λ (s : LatchSight). at_rest s.slot.phase) (look-same h x.queue x.tracks p))
    ∙ unfold seen_by in b)
    (move-good c x.queue x.tracks.inv (step_by p) _ refl)

-- The queue on the calls that were heard gives the other answers, and the record shows it.
refined : (h : Latch) (m : Queue) (cs : List LatchCall) → Tracks h m
    → Shows (run h cs) (queue.run m (heard h cs))
    × (without_sevens (answers h cs) ≡ queue.answers m (heard h cs))
unfolding run answers heard without_sevens queue.run queue.answers
refined h m [] r = (r.shows, refl)
refined h m (c ∷ cs) r =
    go (is_seven (called h c).answer) refl
    (λ e. refined (called h c).latch m cs
    (subst (λ (g : Latch). Tracks g m) (sym (f.seven e)) r))
    (λ e. refined (called h c).latch (queue.next m c) cs (f.alike e).0)
  where
    f : Follows h m c (look h c.party) (move_of h c)
    f = follows h m r c

    rest : List LatchCall
    rest = heard (called h c).latch cs

    others : List Answer
    others = without_sevens (answers (called h c).latch cs)

    go : (b : Bool) → is_seven (called h c).answer ≡ b
        → (is_seven (called h c).answer ≡ true
        → Shows (run (called h c).latch cs) (queue.run m rest) × (others ≡ queue.answers m rest))
        → (is_seven (called h c).answer ≡ false
        → Shows (run (called h c).latch cs) (queue.run (queue.next m c) rest)
        × (others ≡ queue.answers (queue.next m c) rest))
        → Shows (run (called h c).latch cs) (queue.run m (cond b rest (c ∷ rest)))
        × (cond b others ((called h c).answer ∷ others) ≡ queue.answers m (cond b rest (c ∷ rest)))
    go true e x y = x e
    go false e x y = ((y e).0, ap₂ ◌∷◌ (f.alike e).1 (y e).1)

pub refines : Refines
unfolding Refines
refines c n o cs = refined (opening c n).latch (queue.fresh c n) cs (first-tracks c n o)
