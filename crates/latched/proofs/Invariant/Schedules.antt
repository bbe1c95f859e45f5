-- The queue keeps its invariant, and the ledger of its answers agrees with it, on every schedule.
use Prim.Native.Nat.{ℕ, zero, suc, ◌-◌, ◌≤◌}
use mathlib.Core.Path.{◌≡◌, refl, sym, ap, ap₂, subst, ◌∙◌}
use mathlib.Core.Bool.{Bool, true, false, cond}
use mathlib.Core.List.{List}
use native.Mathlib.Omega.{arith}
use borrow.Author.Tests.{ltb-true, ltb-false}
use lib.Dec.{ltb}
use lib.ListN.{replicate}
use Rattle.hub.specs.declared.answers.Answer.{Answer}
use Rattle.hub.specs.declared.answers.Refusal.{Refusal}
use Rattle.hub.specs.declared.record.Phase.{Phase}
use Rattle.hub.specs.declared.record.Place.{Place}
use Rattle.hub.specs.declared.record.Place.TheVariants.{Empty, Cancelled, Done}
use Rattle.hub.specs.Answers.{printed, refusal_code}
use Rattle.hub.specs.Basics.{bit, weight}
use Rattle.hub.specs.Ledger.{phase_in}
use Rattle.hub.specs.Phases.{is_one_of, is_place_of}
use Rattle.hub.specs.Record.{PARTIES}
use Rattle.hub.proofs.Laws.Bools.{if-true, if-false}
use Rattle.hub.proofs.Laws.Lists.{weight-replicate}
use Rattle.hub.proofs.Laws.Printed.{no-refusal}
use Rattle.hub.proofs.Laws.Ranges.{sum_from, sum-zero}
use Rattle.hub.proofs.Invariant.Schedules.{is-cancelled, refusal-code}
use Rattle.hub.proofs.Invariant.Weights.{same_self, lt_no, lt-suc, pick, most, TICKETS}
use Rattle.hub.proofs.Invariant.Weights.{resuming, refusing, drawing, suspending}
use Rattle.hub.proofs.Invariant.Weights.{live, handing, cancelling, own, hand, stage}
use Rattle.hub.proofs.Invariant.Weights.{permit_cell, cancelled_cell, refused_cell}
use Rattle.hub.proofs.Invariant.Skipped.{skipped-shift}
use Rattle.latch.specs.declared.moves.LatchCall.{LatchCall}
use Rattle.latch.specs.declared.record.LatchSlot.{LatchSlot}
use Rattle.latch.specs.Calls.{answer_of, checked}
use Rattle.latched.specs.Claims.{lets_go}
use Rattle.latch.specs.Ledger.{Ledger, count_in, enter, opened, slot_in, slots_after, succeeded, waiters_after}
use Rattle.latch.specs.Look.{seen_by}
use Rattle.latch.specs.Moves.{Move}
use Rattle.latch.specs.Moves.{Refuse, Act, Put, Wake}
use Rattle.latch.specs.Queue.{Queue, phases, places, can_skip, skipped, skip, tidied}
use Rattle.latch.specs.Queue.{apply, look, move_of, next, fresh}
use Rattle.latch.specs.Record.{free_slot, phases_of, read_slot}
use Rattle.latch.specs.Table.{decide}
use Rattle.latch.proofs.Laws.Slots.{read-phase}
use Rattle.latched.proofs.Invariant.Weights.{due_at, holding, left, spare}
use Rattle.latched.proofs.Invariant.Keep.{Inv, ShiftIn, keep}
use Rattle.latched.proofs.Invariant.Rows.{Good, Next, absent-rests}
use Rattle.latched.proofs.Invariant.Walk.{decide-good}

-- What the tidying leaves alone.
pub record Quiet (m m' : Queue) : Type 0 where
  pub parties : m'.parties ≡ m.parties
  pub slots : m'.slots ≡ m.slots
  pub count : m'.figures.count ≡ m.figures.count
  pub waiters : m'.figures.waiters ≡ m.figures.waiters

-- One cancelled cell skipped: no party moves, and its cell is done.
module _ (m : Queue) (inv : Inv m) (e : places m m.figures.resumed ≡ Cancelled) where
  abbrev still : LatchSlot
  still = slot_in m.slots 0

  abbrev resumed : ℕ
  resumed = m.figures.resumed

  still-shift : ShiftIn m (skipped m) 0 still still resumed Cancelled Done
  still-shift =
      record {
        phases =
            skipped-shift inv.tickets e still.phase (sym (unfold read_slot in read-phase m.slots 0));
        was = refl;
        now = refl;
        others = λ q y. refl;
        sums = λ w. refl;
      }

  skipped-inv : Inv (skipped m)
  unfolding is_place_of
  skipped-inv =
      keep m (skipped m) 0 still still resumed Cancelled Done inv still-shift
      (omega (
        arith,
        same_self resumed,
        lt-suc resumed resumed,
        inv.tickets.at resumed,
        inv.loaded 0,
        inv.unloaded 0,
        inv.unheld 0,
        inv.borne,
        inv.crowd,
        ap most e,
      ))
      (λ u z. (refl, omega (arith, lt-suc u resumed)))
      tt (omega (arith, inv.tickets.few)) refl

skip-keeps : (n : ℕ) (m : Queue) → Inv m → Inv (skip n m) × Quiet m (skip n m)
unfolding skip
skip-keeps zero m inv =
    (inv, record { parties = refl; slots = refl; count = refl; waiters = refl })
skip-keeps (suc n) m inv =
    go (can_skip m) refl (λ c. skip-keeps n (skipped m) (skipped-inv m inv (is-cancelled _ c)))
  where
    go : (b : Bool) → can_skip m ≡ b
        → (can_skip m ≡ true → Inv (skip n (skipped m)) × Quiet (skipped m) (skip n (skipped m)))
        → Inv (cond b (skip n (skipped m)) m) × Quiet m (cond b (skip n (skipped m)) m)
    go false e f = (inv, record { parties = refl; slots = refl; count = refl; waiters = refl })
    go true e f =
        let r = f e in
        let q = r.1 in (
          r.0,
          record { parties = q.parties; slots = q.slots; count = q.count; waiters = q.waiters },
        )

pub tidied-keeps : (m : Queue) → Inv m → Inv (tidied m) × Quiet m (tidied m)
tidied-keeps m inv = skip-keeps m.figures.issued m inv

-- The ledger e agrees with the queue m, which was opened with N = c.
pub record Agrees (c : ℕ) (e : Ledger) (m : Queue) : Type 0 where
  pub replayed : e.slots ≡ m.slots
  pub count : count_in c e ≡ m.figures.count
  pub waiters : e.waiters ≡ m.figures.waiters

abbrev pub entered : Ledger → LatchCall → Answer → Ledger
entered e c r = enter e (record { call = c; answer = printed r })

pub refused-same : (e : Ledger) (c : LatchCall) (r : Refusal) → entered e c (Answer.Refused r) ≡ e
unfolding enter
refused-same e c r = if-true _ e _ (refusal-code r)

-- A refusal lets nobody go.
refused-keeps : (r : Refusal) → bit (lets_go (refusal_code r)) ≡ 0
refused-keeps r = rw (no-refusal r 0x21 (omega arith), no-refusal r 0x25 (omega arith), no-refusal r 0x2A (omega arith)) refl

-- What one call leads to: the invariant, the ledger's agreement, and nobody let go before the mark.
pub record Kept (n : ℕ) (e : Ledger) (c : LatchCall) (r : Answer) (m m' : Queue) : Type 0 where
  pub inv : Inv m'
  pub agrees : Agrees n (entered e c r) m'
  pub freed : bit (lets_go (printed r).code) ≤ 1 - m.figures.count

module _ (n : ℕ) (m : Queue) (inv : Inv m) (c : LatchCall) where
  reports-agree : (r : Answer) (m' : Queue) (e : Ledger) → Next c.op c.party r m m'
      → Agrees n e m → Agrees n (succeeded c.op c.party (printed r) e) m'
  reports-agree r m' e x a =
      let s = x.reports in
      record {
        replayed =
            ap₂ (λ (w : ℕ). slots_after c.op c.party w (printed r)) a.waiters a.replayed
            ∙ sym s.moved;
        count = omega (arith, a.count, s.count);
        waiters =
            ap₂ (λ (l : List LatchSlot). waiters_after (printed r).code (slot_in l c.party))
            a.replayed a.waiters
            ∙ sym s.waiters;
      }

  after : (r : Answer) (m' : Queue) (e : Ledger) → Agrees n e m → Next c.op c.party r m m'
      → Kept n e c r m (tidied m')
  unfolding enter
  after r m' e a x =
      let t = tidied-keeps m' x.inv in
      let b = reports-agree r m' e x a in
      record {
        inv = t.0;
        agrees =
            subst (λ (g : Ledger). Agrees n g (tidied m')) (sym (if-false _ e _ x.reports.success))
            (record {
              replayed = b.replayed ∙ sym t.1.slots;
              count = b.count ∙ sym t.1.count;
              waiters = b.waiters ∙ sym t.1.waiters;
            });
        freed = x.reports.freed;
      }

  apply-good : (v : Move) → Good c.op c.party m (look m c.party).slot.phase v
      → (e : Ledger) → Agrees n e m → Kept n e c (answer_of v) m (apply m (look m c.party) v)
  unfolding apply seen_by
  apply-good (Refuse r) g e a =
      record {
        inv = inv;
        agrees = subst (λ (x : Ledger). Agrees n x m) (sym (refused-same e c r)) a;
        freed = omega (arith, refused-keeps r);
      }
  apply-good (Act x) g e a = after x.answer _ e a g
  apply-good (Put b x) g e a = after x.answer _ e a g
  apply-good (Wake q s b x) g e a = after x.answer _ e a g

  pub move-good : (b : Bool) → ltb c.party m.parties ≡ b
      → Good c.op c.party m (look m c.party).slot.phase
      (checked true b (decide c.op false (look m c.party)))
  unfolding checked seen_by
  move-good false i =
      absent-rests c.op _
      (read-phase m.slots c.party ∙ inv.tickets.beyond c.party (ltb-false _ _ i))
  move-good true i = decide-good m c.party (ltb-true _ _ i) inv c.op

  pub next-good : (e : Ledger) → Agrees n e m
      → Kept n e c (answer_of (move_of m c)) m (next m c)
  next-good e a = apply-good (move_of m c) (move-good _ refl) e a

-- A queue just opened with N = c and n.
module _ (c n : ℕ) where
  none : (w : Phase → ℕ) → w Phase.Free ≡ 0
      → weight w (phases_of (replicate PARTIES free_slot)) ≡ 0
  none w z = weight-replicate w Phase.Free z PARTIES

  bare : (w : Place → ℕ) → w Empty ≡ 0 → sum_from (λ t. w Empty) 0 TICKETS ≡ 0
  bare w z = sum-zero (λ t. w Empty) 0 TICKETS (λ t i j. z)

  all-free : (n i : ℕ) → slot_in (replicate n free_slot) i ≡ free_slot
  all-free zero i = refl
  all-free (suc n) zero = refl
  all-free (suc n) (suc i) = all-free n i

  free-phase : (n i : ℕ) → phase_in (phases_of (replicate n free_slot)) i ≡ Phase.Free
  free-phase zero i = refl
  free-phase (suc n) zero = refl
  free-phase (suc n) (suc i) = free-phase n i

  nothing-due : (c : ℕ) → due_at c 0 ≡ 0
  nothing-due zero = refl
  nothing-due (suc c) = refl

  pub fresh-inv : 1 ≤ n → n ≤ PARTIES → c ≤ 200 → Inv (fresh c n)
  unfolding fresh pick is_one_of is_place_of
  fresh-inv a b d =
      record {
        tickets =
            record {
              size = refl;
              few = (a, b);
              beyond = λ p i. free-phase PARTIES p;
              line =
                  omega (
                    arith,
                    none resuming refl,
                    none cancelling refl,
                    none suspending refl,
                    none handing refl,
                    bare cancelled_cell refl,
                    nothing-due c,
                    weight-replicate spare free_slot refl PARTIES,
                  );
              balance =
                  omega (
                    arith,
                    none resuming refl,
                    none suspending refl,
                    none live refl,
                    none refusing refl,
                    bare permit_cell refl,
                    bare refused_cell refl,
                    nothing-due c,
                    weight-replicate spare free_slot refl PARTIES,
                  );
              borne = omega arith;
              drawn = omega (arith, none drawing refl);
              begun = omega arith;
              at = λ t.
                  record {
                    owned = omega (arith, none (own t) refl, lt_no t 0 (omega arith));
                    handed = omega (arith, none (hand t) refl, lt_no t 0 (omega arith));
                    low = omega arith;
                    high = omega (arith, none (stage t) refl);
                  };
              named = λ t q e. cc;
            };
        sealed = λ i.
            omega (
              arith,
              none resuming refl,
              none refusing refl,
              bare permit_cell refl,
              bare refused_cell refl,
            );
        loaded = λ p. omega (arith, ap (λ (s : LatchSlot). resuming s.phase) (all-free PARTIES p));
        unloaded = λ p. omega (arith, ap left (all-free PARTIES p));
        borne = omega (arith, weight-replicate left free_slot refl PARTIES, bare permit_cell refl);
        crowd = omega arith;
        count = d;
        unheld = λ p. ap (λ (s : LatchSlot). holding s.phase) (all-free PARTIES p);
      }

  pub fresh-agrees : Agrees c opened (fresh c n)
  unfolding fresh
  fresh-agrees = record { replayed = refl; count = omega arith; waiters = refl }
