-- The queue keeps its invariant, and the ledger of its answers agrees with it, on every schedule.
use Prim.Native.Nat.{ℕ, zero, suc, ◌+◌, ◌≤◌}
use mathlib.Core.Path.{◌≡◌, refl, sym, ap, ap₂, subst, ◌∙◌}
use mathlib.Core.Bool.{Bool, true, false, cond}
use mathlib.Core.List.{List}
use native.Mathlib.Omega.{arith}
use borrow.Author.Tests.{ltb-true, ltb-false, lt-ltb}
use lib.Dec.{ltb}
use lib.ListN.{replicate}
use Rattle.hub.specs.declared.answers.Answer.{Answer}
use Rattle.hub.specs.declared.answers.Refusal.{Refusal}
use Rattle.hub.specs.declared.moves.Call.{Call}
use Rattle.hub.specs.Moves.{Move}
use Rattle.hub.specs.Moves.{Refuse, Tell, Act, Put, Wake}
use Rattle.hub.specs.declared.moves.Op.{Op}
use Rattle.hub.specs.declared.opening.Opening.{Opening}
use Rattle.hub.specs.declared.record.PartySlot.{PartySlot}
use Rattle.hub.specs.declared.record.Phase.{Phase}
use Rattle.hub.specs.declared.record.Place.{Place}
use Rattle.hub.specs.declared.record.Place.TheVariants.{Empty, Cancelled, Done}
use Rattle.hub.specs.declared.record.Pool.{Pool}
use Rattle.hub.specs.Answers.{printed, refusal_code}
use Rattle.hub.specs.Basics.{weight}
use Rattle.hub.specs.Calls.{answer_of, checked}
use Rattle.hub.specs.Demand3.{AllBelow}
use Rattle.hub.specs.Ledger.{Ledger, opened, phase_in, succeeded, enter}
use Rattle.hub.specs.Ledger.{phases_after, counter_after, served_after}
use Rattle.hub.specs.Look.{seen_by}
use Rattle.hub.specs.Phases.{is_one_of, is_place_of, is_cancelled}
use Rattle.hub.specs.Queue.{Queue, phases, places, can_skip, skipped, skip, tidied}
use Rattle.hub.specs.Queue.{apply, look, move_of, with_pool, next, fresh}
use Rattle.hub.specs.Record.{PARTIES, free_slot, phases_of}
use Rattle.hub.specs.Table.{decide}
use Rattle.hub.proofs.Laws.Bools.{if-true, if-false}
use Rattle.hub.proofs.Laws.Lists.{weight-replicate}
use Rattle.hub.proofs.Laws.Phases.{place_of}
use Rattle.hub.proofs.Laws.Printed.{few-refusals}
use Rattle.hub.proofs.Laws.Ranges.{sum_from, sum-zero}
use Rattle.hub.proofs.Laws.Slots.{read-phase}
use Rattle.hub.proofs.Invariant.Weights.{same_self, lt_no, lt-suc, pick, most}
use Rattle.hub.proofs.Invariant.Weights.{holding, resuming, refusing, drawing, suspending}
use Rattle.hub.proofs.Invariant.Weights.{live, handing, cancelling, radioed, own, hand, refuse, stage}
use Rattle.hub.proofs.Invariant.Weights.{sum, permit_cell, cancelled_cell, refused_cell, cell_sum}
use Rattle.hub.proofs.Invariant.Weights.{TICKETS}
use Rattle.hub.proofs.Invariant.Keep.{Inv, keep}
use Rattle.hub.proofs.Invariant.Potential.{absent-rests}
use Rattle.hub.proofs.Invariant.Rows.{Good, Next}
use Rattle.hub.proofs.Invariant.Walk.{decide-good, all_more}
use Rattle.hub.proofs.Invariant.Skipped.{skipped-shift}

pub is-cancelled : (a : Place) → is_cancelled a ≡ true → a ≡ Cancelled
is-cancelled = place_of Cancelled

-- What the tidying leaves alone.
pub record Quiet (m m' : Queue) : Type 0 where
  pub opening : m'.opening ≡ m.opening
  pub slots : m'.slots ≡ m.slots
  pub counter : m'.figures.counter ≡ m.figures.counter
  pub permits : cell_sum permit_cell m' ≡ cell_sum permit_cell m
  pub refusals : cell_sum refused_cell m' ≡ cell_sum refused_cell m
  pub issued : m'.figures.issued ≡ m.figures.issued
  pub resumed : m.figures.resumed ≤ m'.figures.resumed

-- One cancelled cell skipped: no party moves, and its cell is done.
module _ (k : ℕ) (m : Queue) (inv : Inv k m) (e : places m m.figures.resumed ≡ Cancelled) where
  abbrev still : Phase
  still = phase_in (phases m) 0

  abbrev resumed : ℕ
  resumed = m.figures.resumed

  skipped-inv : Inv k (skipped m)
  unfolding is_place_of
  skipped-inv =
      keep k m (skipped m) 0 still still resumed Cancelled Done inv (skipped-shift inv.tickets e still refl)
      (omega (
        arith,
        same_self resumed,
        lt-suc resumed resumed,
        inv.tickets.at resumed,
        inv.radios 0,
        ap most e,
      ))
      (record {
        numbers = λ u z. (refl, omega (arith, lt-suc u resumed));
        order = λ u i j. omega arith;
      })
      tt (omega (arith, inv.tickets.few)) refl

  skipped-quiet : Quiet m (skipped m)
  unfolding is_place_of
  skipped-quiet =
      record {
        opening = refl;
        slots = refl;
        counter = refl;
        permits = omega (arith, (skipped-shift inv.tickets e _ refl).cell_sums permit_cell);
        refusals = omega (arith, (skipped-shift inv.tickets e _ refl).cell_sums refused_cell);
        issued = refl;
        resumed = omega arith;
      }

quiet-self : (m : Queue) → Quiet m m
quiet-self m =
    record {
      opening = refl;
      slots = refl;
      counter = refl;
      permits = refl;
      refusals = refl;
      issued = refl;
      resumed = omega arith;
    }

quiet_then : (m m₁ m₂ : Queue) → Quiet m m₁ → Quiet m₁ m₂ → Quiet m m₂
quiet_then m m₁ m₂ a b =
    record {
      opening = b.opening ∙ a.opening;
      slots = b.slots ∙ a.slots;
      counter = b.counter ∙ a.counter;
      permits = b.permits ∙ a.permits;
      refusals = b.refusals ∙ a.refusals;
      issued = b.issued ∙ a.issued;
      resumed = omega (arith, a.resumed, b.resumed);
    }

skip-keeps : (k n : ℕ) (m : Queue) → Inv k m → Inv k (skip n m) × Quiet m (skip n m)
unfolding skip
skip-keeps k zero m inv = (inv, quiet-self m)
skip-keeps k (suc n) m inv =
    go (can_skip m) refl
    (λ c. skip-keeps k n (skipped m) (skipped-inv k m inv (is-cancelled _ c)))
  where
    go : (b : Bool) → can_skip m ≡ b
        → (can_skip m ≡ true → Inv k (skip n (skipped m)) × Quiet (skipped m) (skip n (skipped m)))
        → Inv k (cond b (skip n (skipped m)) m) × Quiet m (cond b (skip n (skipped m)) m)
    go false e f = (inv, quiet-self m)
    go true e f =
        let r = f e in
        (r.0, quiet_then m (skipped m) _ (skipped-quiet k m inv (is-cancelled _ e)) r.1)

pub tidied-keeps : (k : ℕ) (m : Queue) → Inv k m → Inv k (tidied m) × Quiet m (tidied m)
tidied-keeps k m inv = skip-keeps k m.figures.issued m inv

-- The ledger e agrees with the queue m.
pub record Agrees (e : Ledger) (m : Queue) : Type 0 where
  pub named : e.named ≡ m.opening.named
  pub replayed : e.phases ≡ phases m
  pub held : e.gave ≡ e.took + sum holding m
  pub counter : e.counter ≡ m.figures.counter
  pub permits : e.left ≡ e.cleared + cell_sum permit_cell m
  pub refusals : e.refused ≡ e.met + cell_sum refused_cell m
  pub served : AllBelow m.figures.resumed e.served

reports-agree : (k : ℕ) (o : Op) (p : ℕ) (r : Answer) (m m' : Queue) (e : Ledger)
    → Next k o p r m m' → Agrees e m → Agrees (succeeded o p (printed r) e) m'
reports-agree k o p r m m' e n a =
    let s = n.reports in
    record {
      named = a.named ∙ sym (ap (λ (x : Opening). x.named) n.opening);
      replayed =
          ap₂ (λ (b : Bool). phases_after b o p (printed r)) a.named a.replayed
          ∙ sym s.moved;
      held = omega (arith, a.held, s.held);
      counter = ap (counter_after (printed r).code) a.counter ∙ sym s.counter;
      permits = omega (arith, a.permits, s.permits);
      refusals = omega (arith, a.refusals, s.refusals);
      served =
          subst
          (λ (l : List Phase).
          AllBelow m'.figures.resumed (served_after p (printed r) l e.served))
          (sym a.replayed) (s.serves e.served a.served);
    }

quiet-agrees : (m m' : Queue) (e : Ledger) → Quiet m m' → Agrees e m → Agrees e m'
quiet-agrees m m' e q a =
    record {
      named = a.named ∙ sym (ap (λ (x : Opening). x.named) q.opening);
      replayed = a.replayed ∙ ap phases_of (sym q.slots);
      held =
          a.held
          ∙ ap (λ (l : List PartySlot). e.took + weight holding (phases_of l)) (sym q.slots);
      counter = a.counter ∙ sym q.counter;
      permits = omega (arith, a.permits, q.permits);
      refusals = omega (arith, a.refusals, q.refusals);
      served =
          all_more m.figures.resumed m'.figures.resumed q.resumed e.served
          a.served;
    }

-- A refusal's code is below 20.
pub refusal-code : (r : Refusal) → ltb (refusal_code r) 0x20 ≡ true
refusal-code r = lt-ltb (refusal_code r) 0x20 (omega (arith, few-refusals r))

abbrev pub entered : Ledger → Call → Answer → Ledger
entered e c r = enter e (record { call = c; answer = printed r })

pub refused-same : (e : Ledger) (c : Call) (r : Refusal) → entered e c (Answer.Refused r) ≡ e
unfolding enter
refused-same e c r = if-true _ e _ (refusal-code r)

-- Radios do not matter to either.
pub with-pool-inv : (k : ℕ) (m : Queue) (q : Pool) → Inv k m → Inv k (with_pool q m)
with-pool-inv k m q i =
    record { tickets = i.tickets; owing = i.owing; order = i.order; radios = i.radios }

with-pool-agrees : (e : Ledger) (m : Queue) (q : Pool) → Agrees e m → Agrees e (with_pool q m)
with-pool-agrees e m q a =
    record {
      named = a.named;
      replayed = a.replayed;
      held = a.held;
      counter = a.counter;
      permits = a.permits;
      refusals = a.refusals;
      served = a.served;
    }

-- One call: the queue keeps the invariant and stays in agreement.
module _ (k : ℕ) (m : Queue) (inv : Inv k m) (c : Call) where
  told : (r : Answer) (m' : Queue) (e : Ledger) → Agrees e m → Next k c.op c.party r m m'
      → Inv k m' × Agrees (entered e c r) m'
  unfolding enter
  told r m' e a n = (
    n.inv,
    subst (λ (g : Ledger). Agrees g m') (sym (if-false _ e _ n.reports.success))
        (reports-agree k c.op c.party r m m' e n a),
  )

  after : (r : Answer) (m' : Queue) (e : Ledger) → Agrees e m → Next k c.op c.party r m m'
      → Inv k (tidied m') × Agrees (entered e c r) (tidied m')
  after r m' e a n =
      let t = tidied-keeps k m' n.inv in
      (t.0, quiet-agrees m' (tidied m') _ t.1 (told r m' e a n).1)

  apply-good : (v : Move)
      → Good k c.op c.party m (look m c.party).slot.phase v
      → (e : Ledger) → Agrees e m
      → Inv k (apply m (look m c.party) v)
      × Agrees (entered e c (answer_of v)) (apply m (look m c.party) v)
  unfolding apply seen_by
  apply-good (Refuse r) g e a =
      (inv, subst (λ (x : Ledger). Agrees x m) (sym (refused-same e c r)) a)
  apply-good (Tell y) g e a = told y _ e a g
  apply-good (Act x) g e a = after x.answer _ e a g
  apply-good (Put b x) g e a = after x.answer _ e a g
  apply-good (Wake q s b x) g e a = after x.answer _ e a g

  pub move-good : (b : Bool) → ltb c.party m.opening.parties ≡ b
      → Good k c.op c.party m (look m c.party).slot.phase
      (checked true b (decide c.op false (look m c.party)))
  unfolding checked seen_by
  move-good false i =
      absent-rests c.op _
      (read-phase m.slots c.party ∙ inv.tickets.beyond c.party (ltb-false _ _ i))
  move-good true i = decide-good k m c.party (ltb-true _ _ i) inv c.op

  pub next-good : (e : Ledger) → Agrees e m
      → Inv k (next m c) × Agrees (entered e c (answer_of (move_of m c))) (next m c)
  next-good e a =
      let g = apply-good (move_of m c) (move-good _ refl) e a in
      (with-pool-inv k _ _ g.0, with-pool-agrees _ _ _ g.1)

-- A queue just opened.
module _ (o : Opening) where
  none : (w : Phase → ℕ) → w Phase.Free ≡ 0
      → weight w (phases_of (replicate PARTIES free_slot)) ≡ 0
  none w z = weight-replicate w Phase.Free z PARTIES

  bare : (w : Place → ℕ) → w Empty ≡ 0 → sum_from (λ t. w Empty) 0 TICKETS ≡ 0
  bare w z = sum-zero (λ t. w Empty) 0 TICKETS (λ t i j. z)

  pub fresh-inv : 1 ≤ o.parties → o.parties ≤ PARTIES → Inv o.permits (fresh o)
  unfolding fresh pick is_one_of is_place_of
  fresh-inv a b =
      record {
        tickets =
            record {
              size = refl;
              few = (a, b);
              beyond = λ p i. all-free PARTIES p;
              line =
                  omega (
                    arith,
                    none resuming refl,
                    none cancelling refl,
                    none suspending refl,
                    none handing refl,
                    bare cancelled_cell refl,
                  );
              balance =
                  omega (
                    arith,
                    none resuming refl,
                    none suspending refl,
                    none live refl,
                    none refusing refl,
                    bare permit_cell refl,
                    bare refused_cell refl,
                  );
              borne = omega arith;
              drawn = omega (arith, none drawing refl);
              begun = omega arith;
              at = λ t.
                  record {
                    owned = omega (arith, none (own t) refl, lt_no t 0 (omega arith));
                    handed = omega (arith, none (hand t) refl, lt_no t 0 (omega arith));
                    low = omega arith;
                    high = omega (arith, none (stage t) refl);
                  };
              named = λ t q e. cc;
            };
        owing = omega (arith, none holding refl, none suspending refl, none live refl);
        order = λ t i j. omega (arith, none (refuse t) refl, j);
        radios = λ p. omega (arith, ap radioed (all-free PARTIES p));
      }
    where
      all-free : (n i : ℕ) → phase_in (phases_of (replicate n free_slot)) i ≡ Phase.Free
      all-free zero i = refl
      all-free (suc n) zero = refl
      all-free (suc n) (suc i) = all-free n i

  pub fresh-agrees : Agrees (opened o) (fresh o)
  unfolding fresh AllBelow pick is_one_of is_place_of
  fresh-agrees =
      record {
        named = refl;
        replayed = refl;
        counter = refl;
        served = tt;
        held = omega (arith, none holding refl);
        permits = omega (arith, bare permit_cell refl);
        refusals = omega (arith, bare refused_cell refl);
      }
