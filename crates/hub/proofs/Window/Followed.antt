-- Call by call: the hub does what the queue does, but for the asks that it answers 7.
use Prim.Native.Nat.{ℕ, ◌+◌, ◌≤◌}
use mathlib.Core.Path.{◌≡◌, refl, sym, ap, ap₂, subst, ◌∙◌}
use mathlib.Core.Bool.{Bool, true, false}
use mathlib.Core.List.{List}
use native.Mathlib.Omega.{arith}
use borrow.Author.Tests.{ltb-true, ltb-false, eqb-true}
use lib.Dec.{ltb, eqb}
use lib.ListN.{length}
use Rattle.hub.specs.declared.answers.Answer.{Answer}
use Rattle.hub.specs.declared.answers.Refusal.{Refusal}
use Rattle.hub.specs.declared.moves.Call.{Call}
use Rattle.hub.specs.Moves.{Move}
use Rattle.hub.specs.Moves.{Refuse, Tell, Act, Put, Wake}
use Rattle.hub.specs.declared.moves.Op.{Op}
use Rattle.hub.specs.declared.moves.Op.TheVariants.{Acquire, Step, Cancel, Release, Radio}
use Rattle.hub.specs.declared.moves.Sight.{Sight}
use Rattle.hub.specs.declared.opening.Opening.{Opening}
use Rattle.hub.specs.declared.record.Hub.{Hub}
use Rattle.hub.specs.declared.record.PartySlot.{PartySlot}
use Rattle.hub.specs.declared.record.Phase.{Phase}
use Rattle.hub.specs.declared.record.Pool.{Pool}
use Rattle.hub.specs.Answers.{Printed, printed}
use Rattle.hub.specs.Calls.{is_full, checked, move_of, answer_of, apply, tidied, called}
use Rattle.hub.specs.Fits.{fits, kinds_fit}
use Rattle.hub.specs.Ledger.{phase_in}
use Rattle.hub.specs.Look.{look, seen_by}
use Rattle.hub.specs.Opening.{radios_differ}
use Rattle.hub.specs.Queue.{Queue, phases}
use Rattle.hub.specs.Queue as queue
use Rattle.hub.specs.Radios.{moved, pool_after}
use Rattle.hub.specs.Record.{with_pool, write_slot}
use Rattle.hub.specs.Refinement.{Shows, is_seven}
use Rattle.hub.specs.Ring.{PLACES}
use Rattle.hub.specs.Table.{decide, acquire}
use Rattle.hub.proofs.Laws.Opening.{kept-opening}
use Rattle.hub.proofs.Laws.Slots.{read-phase}
use Rattle.hub.proofs.Invariant.Weights.{drawing, sum}
use Rattle.hub.proofs.Invariant.Rows.{Good, Next, is_acquire}
use Rattle.hub.proofs.Invariant.Walk.{decide-good}
use Rattle.hub.proofs.Invariant.Schedules.{with-pool-inv}
use Rattle.hub.proofs.Radios.Kept.{called-kept}
use Rattle.hub.proofs.Window.Tracked.{placed-window, room-left}
use Rattle.hub.proofs.Window.Shown.{Reached, Tracks, tracked, look-same}
use Rattle.hub.proofs.Window.Moved.{tidied-tracks}
use Rattle.hub.proofs.Window.Reached.{reached-fits}

-- What the hub's move v does beside the queue's: the same, unless it answers 7, and then nothing.
abbrev left : Hub → ℕ → Sight → Move → Hub
left h p s v =
    with_pool (pool_after h.control.opening.named (printed (answer_of v)) p h.control.pool) (apply h s v)

pub record Follows (k : ℕ) (h : Hub) (m : Queue) (c : Call) (s : Sight) (v : Move) : Type 0 where
  pub alike : is_seven (answer_of v) ≡ false
      → Tracks k (left h c.party s v) (queue.next m c)
      × (answer_of v ≡ answer_of (queue.move_of m c))
  pub seven : is_seven (answer_of v) ≡ true → left h c.party s v ≡ h

-- A success is no 7.
pub not-seven : (a : Answer) → ltb (printed a).code 0x20 ≡ false → is_seven a ≡ true → ⊥
not-seven a i j =
    omega (arith, ltb-false (printed a).code 0x20 i, eqb-true (printed a).code 7 j)

-- A 7 moves no radio.
seven-pool : (b : Bool) (y : Printed) (p : ℕ) (q : Pool) → eqb y.code 7 ≡ true
    → pool_after b y p q ≡ q
unfolding pool_after moved
seven-pool false y p q e = refl
seven-pool true y p q e =
    subst
    (λ (x : ℕ). moved (record { code = x; woken = y.woken; number = y.number }) p q ≡ q)
    (sym (eqb-true y.code 7 e)) refl

-- Radios that move alike in both are no matter of the queue's.
tracks-pool : (k : ℕ) (h : Hub) (m : Queue) (q q' : Pool) → q ≡ q' → Tracks k h m
    → Tracks k (with_pool q h) (queue.with_pool q' m)
tracks-pool k h m q q' e r =
    record {
      permits = r.permits;
      size = r.size;
      shows =
          record {
            opening = r.shows.opening;
            figures = r.shows.figures;
            slots = r.shows.slots;
            window = r.shows.window;
            pool = e;
          };
      inv = with-pool-inv k m q' r.inv;
      room = r.room;
    }

module _ (k : ℕ) (h : Hub) (m : Queue) (r : Tracks k h m) (c : Call) where
  abbrev seen : Sight
  seen = queue.look m c.party

  abbrev phase : Phase
  phase = seen.slot.phase

  -- the party's phase is in the list of everybody's
  own-phase : phase_in (phases m) c.party ≡ phase
  unfolding seen_by
  own-phase = sym (read-phase m.slots c.party)

  -- A move made by both, and one that answers 7.
  beside : (v : Move) → Tracks k (apply h seen v) (queue.apply m seen v)
      → (is_seven (answer_of v) ≡ true → apply h seen v ≡ h) → v ≡ queue.move_of m c
      → Follows k h m c seen v
  beside v t z e =
      record {
        alike = λ i. (
          tracks-pool k (apply h seen v) (queue.apply m seen (queue.move_of m c)) _ _
              (λ j.
              pool_after (r.shows.opening j).named (printed (answer_of (e j))) c.party (r.shows.pool j))
              (subst (λ (x : Move). Tracks k (apply h seen v) (queue.apply m seen x)) e t),
          ap answer_of e,
        );
        seven = λ i. ap₂ with_pool (seven-pool _ _ _ _ i) (z i);
      }

  -- A good move, for which there is room.
  module _ (spare : m.figures.issued + sum drawing m + is_acquire c.op ≤ h.control.oldest + PLACES) where
    changed : (a : Answer) (h' : Hub) (m' : Queue) → Next k c.op c.party a m m'
        → Shows h' m' → length h'.places ≡ PLACES → h'.control.oldest ≡ h.control.oldest
        → Tracks k (tidied h') (queue.tidied m')
    changed a h' m' g w z j =
        tidied-tracks k h' m'
        (record {
          permits =
              ap (λ (o : Opening). o.permits) (w.opening ∙ g.opening ∙ sym r.shows.opening)
              ∙ r.permits;
          size = z;
          shows = w;
          inv = g.inv;
          room = omega (arith, g.reports.room, g.reports.begins);
        })

    apply-tracks : (v : Move) → Good k c.op c.party m phase v
        → Tracks k (apply h seen v) (queue.apply m seen v)
    unfolding apply queue.apply seen_by
    apply-tracks (Refuse x) g = r
    apply-tracks (Tell y) g = r
    apply-tracks (Act x) g =
        changed x.answer _ _ g
        (record {
          opening = r.shows.opening;
          figures = refl;
          slots = ap (λ (l : List PartySlot). write_slot l c.party x.slot) r.shows.slots;
          window = r.shows.window;
          pool = r.shows.pool;
        })
        r.size refl
    apply-tracks (Put a x) g =
        let q = placed-window (tracked r) c.party phase own-phase a in
        changed x.answer _ _ g
        (record {
          opening = r.shows.opening;
          figures = refl;
          slots = ap (λ (l : List PartySlot). write_slot l c.party x.slot) r.shows.slots;
          window = q.0;
          pool = r.shows.pool;
        })
        q.1 refl
    apply-tracks (Wake w s a x) g =
        let q = placed-window (tracked r) c.party phase own-phase a in
        changed x.answer _ _ g
        (record {
          opening = r.shows.opening;
          figures = refl;
          slots =
              ap (λ (l : List PartySlot). write_slot (write_slot l w s) c.party x.slot)
              r.shows.slots;
          window = q.0;
          pool = r.shows.pool;
        })
        q.1 refl

    made : (v : Move) → Good k c.op c.party m phase v → v ≡ queue.move_of m c
        → Follows k h m c seen v
    made v g e = beside v (apply-tracks v g) (still v g) e
      where
        still : (v : Move) → Good k c.op c.party m phase v → is_seven (answer_of v) ≡ true
            → apply h seen v ≡ h
        still (Refuse x) g i = unfold apply in refl
        still (Tell y) g i = absurd (not-seven y g.reports.success i)
        still (Act x) g i = absurd (not-seven x.answer g.reports.success i)
        still (Put a x) g i = absurd (not-seven x.answer g.reports.success i)
        still (Wake w s a x) g i = absurd (not-seven x.answer g.reports.success i)

  refused : (x : Refusal) → Refuse x ≡ queue.move_of m c → Follows k h m c seen (Refuse x)
  unfolding apply queue.apply
  refused x e = beside (Refuse x) r (λ i. refl) e

  seventh : Follows k h m c seen (Refuse Refusal.Full)
  unfolding apply
  seventh =
      record {
        alike = λ i. (let z : ◌≡◌ {A = ℕ} 0 1 = cc in let y : ⊥ = omega arith in absurd y);
        seven = λ i. ap (λ (q : Pool). with_pool q h) (seven-pool _ _ _ _ i);
      }

  -- 7 takes the place of an accepted ask, and of nothing else.
  full-acquire : (x y : Bool) → acquire x y false seen ≡ queue.move_of m c
      → Follows k h m c seen (acquire x y true seen)
  unfolding acquire
  full-acquire false y e = refused Refusal.NotFree e
  full-acquire true true e = refused Refusal.Exhausted e
  full-acquire true false e = seventh

  abbrev full : Bool
  full = is_full h.control.oldest h.control.figures.issued h.slots

  decided : (b : Bool) (o : Op) → full ≡ b → c.op ≡ o
      → Good k c.op c.party m phase (decide o false seen)
      → decide o false seen ≡ queue.move_of m c → Follows k h m c seen (decide o b seen)
  unfolding decide
  decided false o f z g e =
      made
      (omega (
        arith,
        room-left (phases m) h.control.oldest m.figures.issued
            (sym (λ i. is_full h.control.oldest (r.shows.figures i).issued (r.shows.slots i)) ∙ f),
        at_most c.op,
      ))
      (decide o false seen) g e
    where
      at_most : (o : Op) → is_acquire o ≤ 1
      at_most Acquire = omega arith
      at_most Step = omega arith
      at_most Cancel = omega arith
      at_most Release = omega arith
      at_most Radio = omega arith
  decided true Acquire f z g e = full-acquire _ _ e
  decided true Step f z g e = made (omega (arith, r.room, ap is_acquire z)) _ g e
  decided true Cancel f z g e = made (omega (arith, r.room, ap is_acquire z)) _ g e
  decided true Release f z g e = made (omega (arith, r.room, ap is_acquire z)) _ g e
  decided true Radio f z g e = made (omega (arith, r.room, ap is_acquire z)) _ g e

  in-turn : (b : Bool) → ltb c.party m.opening.parties ≡ b
      → Follows k h m c seen (checked true b (decide c.op full seen))
  unfolding checked
  in-turn false e =
      refused Refusal.NoSuchParty
      (sym (ap (λ (b : Bool). checked true b (decide c.op false seen)) e))
  in-turn true e =
      decided full c.op refl refl
      (decide-good k m c.party (ltb-true _ _ e) r.inv c.op)
      (sym (ap (λ (b : Bool). checked true b (decide c.op false seen)) e))

  fitting : fits h ≡ true → Follows k h m c (look h c.party) (move_of h c)
  fitting i =
      subst (λ (x : Bool). Follows k h m c (look h c.party)
      (checked x (ltb c.party h.control.opening.parties) (decide c.op full (look h c.party))))
      (sym i)
      (subst (λ (n : ℕ). Follows k h m c (look h c.party)
      (checked true (ltb c.party n) (decide c.op full (look h c.party))))
      (sym (ap (λ (o : Opening). o.parties) r.shows.opening))
      (subst (λ (s : Sight). Follows k h m c s
      (checked true (ltb c.party m.opening.parties) (decide c.op full s)))
      (sym (look-same k h m r c.party))
      (in-turn _ refl)))

-- On a record that is reached. What the call leaves is reached too: radios are kept by every call.
module _ (k : ℕ) (h : Hub) (m : Queue) (r : Reached k h m) (c : Call) where
  pub follows : 1 ≤ k → k ≤ 32 → Follows k h m c (look h c.party) (move_of h c)
  follows a b = fitting k h m r.tracks c (reached-fits k h m r a b)

  pub called-reached : (m' : Queue) → Tracks k (called h c).hub m' → Reached k (called h c).hub m'
  called-reached m' t =
      let o = kept-opening h (look h c.party) (move_of h c) in
      record {
        tracks = t;
        differ = ap radios_differ o ∙ r.differ;
        kinds = ap kinds_fit o ∙ r.kinds;
        radios = λ n.
            let n' = sym (ap (λ (x : Opening). x.named) o) ∙ n in
            called-kept h c n' (r.radios n');
      }
