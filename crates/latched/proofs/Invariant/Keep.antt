-- The invariant of the queue: the hub's part on tickets and cells, and the latch's counters beside it. One law by
-- which every move keeps it.
use Prim.Native.Nat.{ℕ, ◌+◌, ◌*◌, ◌≤◌, ◌<◌}
use mathlib.Core.Path.{◌≡◌, sym, ap, subst, ◌∙◌}
use mathlib.Core.Logic.{◌≢◌}
use native.Mathlib.Decide.{ℕ_discrete}
use native.Mathlib.Omega.{arith}
use Rattle.hub.specs.declared.record.Place.{Place}
use Rattle.hub.specs.Record.{MAX_BEGUN}
use Rattle.hub.proofs.Laws.Lists.{weight-le, weight-map, weight-scale}
use Rattle.hub.proofs.Invariant.Weights.{same, lt}
use Rattle.hub.proofs.Invariant.Weights.{resuming, refusing, drawing, suspending}
use Rattle.hub.proofs.Invariant.Weights.{live, handing, cancelling, own, hand, stand}
use Rattle.hub.proofs.Invariant.Weights.{stage, permit_cell, cancelled_cell, refused_cell}
use Rattle.hub.proofs.Invariant.Weights.{spent, served, least, most}
use Rattle.hub.proofs.Invariant.Tickets.{Tickets, Shift, Owes, Names, keep-tickets}
use Rattle.latch.specs.declared.record.LatchFigures.{LatchFigures}
use Rattle.latch.specs.declared.record.LatchSlot.{LatchSlot}
use Rattle.latch.specs.Ledger.{slot_in}
use Rattle.latch.specs.Queue.{Queue, phases, places}
use Rattle.latch.specs.Record.{free_slot}
use Rattle.latched.proofs.Invariant.Weights.{cell_sum, due, holding, left, slot_sum, spare, sum}

-- The hub's part. What is due is each waiter while the count is above 0, and the hand-overs that a carrier has
-- beyond the one under way.
abbrev pub TicketsIn : Queue → Type 0
TicketsIn m =
    let f = m.figures in
    Tickets (phases m) (places m) m.parties f.issued f.resumed f.begun
    (due f + slot_sum spare m) (sum resuming m)

pub record Inv (m : Queue) : Type 0 where
  pub tickets : TicketsIn m
  -- while the count is above 0 nobody carries, hands or refuses, and no place is link or refused
  pub sealed : 1 ≤ m.figures.count
      → sum resuming m + sum refusing m + cell_sum permit_cell m + cell_sum refused_cell m ≡ 0
  -- whoever carries or hands has a hand-over left, and nobody else
  pub loaded : (p : ℕ) → resuming (slot_in m.slots p).phase ≤ left (slot_in m.slots p)
  pub unloaded : (p : ℕ) → left (slot_in m.slots p) ≤ 32 * resuming (slot_in m.slots p).phase
  pub borne : slot_sum left m + cell_sum permit_cell m ≤ 32
  pub crowd : m.figures.waiters ≤ 32
  pub count : m.figures.count ≤ 200
  pub unheld : (p : ℕ) → holding (slot_in m.slots p).phase ≡ 0

-- Party p goes from slot f to x, and the cell of ticket t from b to a.
pub record ShiftIn (m m' : Queue) (p : ℕ) (f x : LatchSlot) (t : ℕ) (b a : Place) : Type 0 where
  pub phases : Shift (phases m) (phases m') (places m) (places m') p f.phase x.phase t b a
  pub was : slot_in m.slots p ≡ f
  pub now : slot_in m'.slots p ≡ x
  pub others : (q : ℕ) → q ≢ p → slot_in m'.slots q ≡ slot_in m.slots q
  pub sums : (w : LatchSlot → ℕ) → slot_sum w m' + w f ≡ slot_sum w m + w x

-- What a row owes. Of each pair the second is after the move; s is the stage of t, and y what is borne.
pub record Local (f x : LatchSlot) (t : ℕ) (b a : Place) (e h : LatchFigures) (s y : ℕ) : Type 0 where
  pub line : resuming x.phase + spare x + due h + cancelling x.phase + cancelled_cell a + h.resumed
      + suspending f.phase + e.issued + handing f.phase
      ≡ resuming f.phase + spare f + due e + cancelling f.phase + cancelled_cell b + e.resumed
      + suspending x.phase + h.issued + handing x.phase
  pub balance : resuming x.phase + spare x + due h + permit_cell a
      + suspending f.phase + live f.phase + refusing f.phase + refused_cell b
      ≡ resuming f.phase + spare f + due e + permit_cell b
      + suspending x.phase + live x.phase + refusing x.phase + refused_cell a
  pub drawn : h.issued + drawing x.phase + e.begun ≤ e.issued + drawing f.phase + h.begun
  pub begun : e.begun ≤ MAX_BEGUN → h.begun ≤ MAX_BEGUN
  pub owned : own t x.phase + spent a + lt t e.issued ≡ own t f.phase + spent b + lt t h.issued
  pub handed : hand t x.phase + served a + lt t e.resumed
      ≡ hand t f.phase + served b + lt t h.resumed
  pub low : least a + stage t f.phase ≤ s + stage t x.phase
  pub high : s + stage t x.phase ≤ most a + stage t f.phase
  pub away : (u : ℕ) → same t u ≡ 0
      → (own u x.phase ≡ own u f.phase) × (hand u x.phase ≡ hand u f.phase)
      × (stage u x.phase ≡ stage u f.phase) × (stand u f.phase ≤ stand u x.phase)
  pub later : e.resumed ≤ h.resumed
  pub fewer : h.count ≤ e.count
  pub sealed : 1 ≤ h.count
      → resuming x.phase + refusing x.phase + permit_cell a + refused_cell a
      ≤ resuming f.phase + refusing f.phase + permit_cell b + refused_cell b
  pub loaded : resuming x.phase ≤ left x
  pub unloaded : left x ≤ 32 * resuming x.phase
  pub borne : y + left x + permit_cell a ≤ 32 + left f + permit_cell b
  pub crowd : h.waiters ≤ 32
  pub unheld : holding x.phase ≡ 0

-- And what it owes to the other tickets.
abbrev pub Beside : ℕ → LatchFigures → LatchFigures → Type 0
Beside t e h =
    (u : ℕ) → same t u ≡ 0
    → (lt u h.issued ≡ lt u e.issued) × (lt u h.resumed ≡ lt u e.resumed)

abbrev pub LocalIn : Queue → LatchFigures → LatchSlot → LatchSlot → ℕ → Place → Place → Type 0
LocalIn m h f x t b a =
    Local f x t b a m.figures h (sum (stage t) m) (slot_sum left m + cell_sum permit_cell m)

module _ (m m' : Queue) (p : ℕ) (f x : LatchSlot) (t : ℕ) (b a : Place)
    (inv : Inv m) (sh : ShiftIn m m' p f x t b a) (lo : LocalIn m m'.figures f x t b a)
    (be : Beside t m.figures m'.figures) where
  owes : let d = m.figures in let d' = m'.figures in
      Owes f.phase x.phase t b a d.issued d'.issued d.resumed d'.resumed d.begun d'.begun
      (due d + slot_sum spare m) (due d' + slot_sum spare m') (sum resuming m) (sum resuming m')
      (sum (stage t) m)
  owes =
      record {
        line = omega (arith, lo.line, sh.phases.sums resuming, sh.sums spare);
        balance = omega (arith, lo.balance, sh.phases.sums resuming, sh.sums spare);
        borne = omega (arith, sh.phases.sums resuming);
        drawn = lo.drawn;
        begun = lo.begun;
        owned = lo.owned;
        handed = lo.handed;
        low = lo.low;
        high = lo.high;
        away = lo.away;
        numbers = be;
      }

  -- A fact of a slot that each slot before had, and the new one has.
  each : (P : LatchSlot → Type 0) → P x → ((q : ℕ) → P (slot_in m.slots q)) → (q : ℕ)
      → P (slot_in m'.slots q)
  each P n e q = go (ℕ_discrete q p)
    where
      go : Dec (q ≡ p) → P (slot_in m'.slots q)
      go (yes z) = subst P (sym (ap (slot_in m'.slots) z ∙ sh.now)) n
      go (no y) = subst P (sym (sh.others q y)) (e q)

  -- Every move keeps the invariant.
  pub keep : Names p t x.phase b a → p < m.parties → m'.parties ≡ m.parties → Inv m'
  keep nm l e =
      record {
        tickets =
            subst
            (λ (n : ℕ).
            Tickets (phases m') (places m') n m'.figures.issued m'.figures.resumed
            m'.figures.begun (due m'.figures + slot_sum spare m') (sum resuming m'))
            (sym e) (keep-tickets inv.tickets sh.phases owes nm l);
        sealed = λ i.
            omega (
              arith,
              inv.sealed (omega (arith, lo.fewer)),
              lo.sealed i,
              sh.phases.sums resuming,
              sh.phases.sums refusing,
              sh.phases.cell_sums permit_cell,
              sh.phases.cell_sums refused_cell,
            );
        loaded = each (λ s. resuming s.phase ≤ left s) lo.loaded inv.loaded;
        unloaded = each (λ s. left s ≤ 32 * resuming s.phase) lo.unloaded inv.unloaded;
        borne = omega (arith, lo.borne, sh.sums left, sh.phases.cell_sums permit_cell);
        crowd = lo.crowd;
        count = omega (arith, lo.fewer, inv.count);
        unheld = each (λ s. holding s.phase ≡ 0) lo.unheld inv.unheld;
      }

-- What a row may use.
module _ (m : Queue) (inv : Inv m) where
  -- Where nobody carries or hands, there is no hand-over left.
  pub no-load : sum resuming m ≡ 0 → slot_sum left m ≡ 0
  no-load z =
      omega (
        arith,
        weight-scale 1 32 left (λ s. resuming s.phase) free_slot m.slots
            (λ i j. omega (arith, inv.unloaded i)),
        weight-map resuming (λ (s : LatchSlot). s.phase) m.slots,
      )

  pub spare-most : slot_sum spare m ≤ slot_sum left m
  spare-most = weight-le spare left free_slot m.slots (λ i j. omega arith)

  -- Before the mark the waiters are those who wait or will.
  pub awaiting : 1 ≤ m.figures.count → due m.figures ≡ sum suspending m + sum live m
  awaiting i =
      omega (
        arith,
        inv.tickets.balance,
        inv.sealed i,
        no-load (omega (arith, inv.sealed i)),
        spare-most,
      )
