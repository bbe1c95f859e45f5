-- Call by call: the latch does what the queue does, but for the awaits that it answers 7.
use Prim.Native.Nat.{ℕ, ◌+◌, ◌≤◌}
use mathlib.Core.Path.{◌≡◌, refl, sym, ap, subst, ◌∙◌}
use mathlib.Core.Bool.{Bool, true, false}
use mathlib.Core.List.{List}
use native.Mathlib.Omega.{arith}
use borrow.Author.Tests.{ltb-true}
use lib.Dec.{ltb}
use lib.ListN.{length}
use Rattle.hub.specs.declared.answers.Answer.{Answer}
use Rattle.hub.specs.declared.answers.Refusal.{Refusal}
use Rattle.hub.specs.declared.record.Phase.{Phase}
use Rattle.hub.specs.Ledger.{phase_in}
use Rattle.hub.specs.Refinement.{is_seven}
use Rattle.hub.specs.Ring.{PLACES}
use Rattle.hub.proofs.Invariant.Weights.{drawing}
use Rattle.hub.proofs.Window.Tracked.{placed-window, room-left}
use Rattle.hub.proofs.Window.Followed.{not-seven}
use Rattle.latch.specs.declared.moves.LatchCall.{LatchCall}
use Rattle.latch.specs.declared.moves.LatchOp.{LatchOp}
use Rattle.latch.specs.declared.moves.LatchOp.TheVariants.{Await, Step, Cancel, CountDown}
use Rattle.latch.specs.declared.moves.LatchSight.{LatchSight}
use Rattle.latch.specs.declared.record.Latch.{Latch}
use Rattle.latch.specs.declared.record.LatchSlot.{LatchSlot}
use Rattle.latch.specs.Calls.{is_full, checked, move_of, answer_of, apply, tidied}
use Rattle.latch.specs.Look.{look, seen_by}
use Rattle.latch.specs.Moves.{Move}
use Rattle.latch.specs.Moves.{Refuse, Act, Put, Wake}
use Rattle.latch.specs.Queue.{Queue, phases}
use Rattle.latch.specs.Queue as queue
use Rattle.latch.specs.Record.{write_slot}
use Rattle.latched.specs.Refinement.{Shows}
use Rattle.latch.specs.Table.{decide, await}
use Rattle.latch.proofs.Laws.Slots.{read-phase}
use Rattle.latched.proofs.Invariant.Weights.{sum}
use Rattle.latched.proofs.Invariant.Rows.{Good, Next, is_await}
use Rattle.latched.proofs.Invariant.Walk.{decide-good}
use Rattle.latched.proofs.Window.Shown.{Tracks, tracked, look-same}
use Rattle.latched.proofs.Window.Moved.{tidied-tracks}
use Rattle.latched.proofs.Window.Reached.{reached-fits}

-- What the latch's move v does beside the queue's: the same, unless it answers 7, and then nothing.
pub record Follows (h : Latch) (m : Queue) (c : LatchCall) (s : LatchSight) (v : Move) : Type 0 where
  pub alike : is_seven (answer_of v) ≡ false
      → Tracks (apply h s v) (queue.next m c) × (answer_of v ≡ answer_of (queue.move_of m c))
  pub seven : is_seven (answer_of v) ≡ true → apply h s v ≡ h

module _ (h : Latch) (m : Queue) (r : Tracks h m) (c : LatchCall) where
  abbrev seen : LatchSight
  seen = queue.look m c.party

  abbrev phase : Phase
  phase = seen.slot.phase

  -- the party's phase is in the list of everybody's
  own-phase : phase_in (phases m) c.party ≡ phase
  unfolding seen_by
  own-phase = sym (read-phase m.slots c.party)

  -- A move made by both, and one that answers 7.
  beside : (v : Move) → Tracks (apply h seen v) (queue.apply m seen v)
      → (is_seven (answer_of v) ≡ true → apply h seen v ≡ h) → v ≡ queue.move_of m c
      → Follows h m c seen v
  beside v t z e =
      record {
        alike = λ i. (
          subst (λ (x : Move). Tracks (apply h seen v) (queue.apply m seen x)) e t,
          ap answer_of e,
        );
        seven = z;
      }

  -- A good move, for which there is room.
  module _ (spare : m.figures.issued + sum drawing m + is_await c.op ≤ h.oldest + PLACES) where
    changed : (a : Answer) (h' : Latch) (m' : Queue) → Next c.op c.party a m m'
        → Shows h' m' → length h'.places ≡ PLACES → h'.oldest ≡ h.oldest
        → Tracks (tidied h') (queue.tidied m')
    changed a h' m' g w z j =
        tidied-tracks h' m'
        (record {
          size = z;
          shows = w;
          inv = g.inv;
          room = omega (arith, g.reports.room, g.reports.begins);
        })

    apply-tracks : (v : Move) → Good c.op c.party m phase v
        → Tracks (apply h seen v) (queue.apply m seen v)
    unfolding apply queue.apply seen_by
    apply-tracks (Refuse x) g = r
    apply-tracks (Act x) g =
        changed x.answer _ _ g
        (record {
          parties = r.shows.parties;
          figures = refl;
          slots = ap (λ (l : List LatchSlot). write_slot l c.party x.slot) r.shows.slots;
          window = r.shows.window;
        })
        r.size refl
    apply-tracks (Put a x) g =
        let q = placed-window (tracked r) c.party phase own-phase a in
        changed x.answer _ _ g
        (record {
          parties = r.shows.parties;
          figures = refl;
          slots = ap (λ (l : List LatchSlot). write_slot l c.party x.slot) r.shows.slots;
          window = q.0;
        })
        q.1 refl
    apply-tracks (Wake w s a x) g =
        let q = placed-window (tracked r) c.party phase own-phase a in
        changed x.answer _ _ g
        (record {
          parties = r.shows.parties;
          figures = refl;
          slots =
              ap (λ (l : List LatchSlot). write_slot (write_slot l w s) c.party x.slot)
              r.shows.slots;
          window = q.0;
        })
        q.1 refl

    made : (v : Move) → Good c.op c.party m phase v → v ≡ queue.move_of m c
        → Follows h m c seen v
    made v g e = beside v (apply-tracks v g) (still v g) e
      where
        still : (v : Move) → Good c.op c.party m phase v → is_seven (answer_of v) ≡ true
            → apply h seen v ≡ h
        still (Refuse x) g i = unfold apply in refl
        still (Act x) g i = absurd (not-seven x.answer g.reports.success i)
        still (Put a x) g i = absurd (not-seven x.answer g.reports.success i)
        still (Wake w s a x) g i = absurd (not-seven x.answer g.reports.success i)

  refused : (x : Refusal) → Refuse x ≡ queue.move_of m c → Follows h m c seen (Refuse x)
  unfolding apply queue.apply
  refused x e = beside (Refuse x) r (λ i. refl) e

  seventh : Follows h m c seen (Refuse Refusal.Full)
  unfolding apply
  seventh =
      record {
        alike = λ i. (let z : ◌≡◌ {A = ℕ} 0 1 = cc in let y : ⊥ = omega arith in absurd y);
        seven = λ i. refl;
      }

  -- 7 takes the place of an accepted await, and of nothing else.
  full-await : (x y : Bool) → await x y false seen ≡ queue.move_of m c
      → Follows h m c seen (await x y true seen)
  unfolding await
  full-await false y e = refused Refusal.NotFree e
  full-await true true e = refused Refusal.Exhausted e
  full-await true false e = seventh

  abbrev full : Bool
  full = is_full h.oldest h.figures.issued h.slots

  decided : (b : Bool) (o : LatchOp) → full ≡ b → c.op ≡ o
      → Good c.op c.party m phase (decide o false seen)
      → decide o false seen ≡ queue.move_of m c → Follows h m c seen (decide o b seen)
  unfolding decide
  decided false o f z g e =
      made
      (omega (
        arith,
        room-left (phases m) h.oldest m.figures.issued
            (sym (λ i. is_full h.oldest (r.shows.figures i).issued (r.shows.slots i)) ∙ f),
        at_most c.op,
      ))
      (decide o false seen) g e
    where
      at_most : (o : LatchOp) → is_await o ≤ 1
      at_most Await = omega arith
      at_most Step = omega arith
      at_most Cancel = omega arith
      at_most CountDown = omega arith
  decided true Await f z g e = full-await _ _ e
  decided true Step f z g e = made (omega (arith, r.room, ap is_await z)) _ g e
  decided true Cancel f z g e = made (omega (arith, r.room, ap is_await z)) _ g e
  decided true CountDown f z g e = made (omega (arith, r.room, ap is_await z)) _ g e

  in-turn : (b : Bool) → ltb c.party m.parties ≡ b
      → Follows h m c seen (checked true b (decide c.op full seen))
  unfolding checked
  in-turn false e =
      refused Refusal.NoSuchParty
      (sym (ap (λ (b : Bool). checked true b (decide c.op false seen)) e))
  in-turn true e =
      decided full c.op refl refl
      (decide-good m c.party (ltb-true _ _ e) r.inv c.op)
      (sym (ap (λ (b : Bool). checked true b (decide c.op false seen)) e))

  pub follows : Follows h m c (look h c.party) (move_of h c)
  follows =
      subst (λ (x : Bool). Follows h m c (look h c.party)
      (checked x (ltb c.party h.parties) (decide c.op full (look h c.party))))
      (sym (reached-fits h m r))
      (subst (λ (n : ℕ). Follows h m c (look h c.party)
      (checked true (ltb c.party n) (decide c.op full (look h c.party))))
      (sym r.shows.parties)
      (subst (λ (s : LatchSight). Follows h m c s
      (checked true (ltb c.party m.parties) (decide c.op full s)))
      (sym (look-same h m r c.party))
      (in-turn _ refl)))
