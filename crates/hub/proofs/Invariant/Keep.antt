-- The invariant of the queue: the tickets, and the permits and the counter beside them. One law by
-- which every move keeps it.
use Prim.Native.Nat.{ℕ, ◌+◌, ◌≤◌, ◌<◌}
use mathlib.Core.Path.{◌≡◌, sym, ap, subst, ◌∙◌}
use mathlib.Core.Logic.{◌⊎◌, inl, inr}
use native.Mathlib.Decide.{ℕ_discrete}
use native.Mathlib.Omega.{arith}
use lib.IntN.{ℤ}
use Rattle.hub.specs.declared.opening.Opening.{Opening}
use Rattle.hub.specs.declared.record.Figures.{Figures}
use Rattle.hub.specs.declared.record.Phase.{Phase}
use Rattle.hub.specs.declared.record.Place.{Place}
use Rattle.hub.specs.Basics.{bit}
use Rattle.hub.specs.Ledger.{phase_in}
use Rattle.hub.specs.Queue.{Queue, phases, places}
use Rattle.hub.specs.Record.{MAX_BEGUN}
use Rattle.hub.proofs.Laws.Lists.{weight-le}
use Rattle.hub.proofs.Invariant.Weights.{same, same-other, lt, lt-pos}
use Rattle.hub.proofs.Invariant.Weights.{up, down, calm, calm-down, calm-or}
use Rattle.hub.proofs.Invariant.Weights.{holding, resuming, refusing, drawing, suspending}
use Rattle.hub.proofs.Invariant.Weights.{live, handing, cancelling, radioed, own, hand, stand, refuse}
use Rattle.hub.proofs.Invariant.Weights.{stage, above, permit_cell, cancelled_cell, refused_cell}
use Rattle.hub.proofs.Invariant.Weights.{spent, served, least, most, sum, cell_sum}
use Rattle.hub.proofs.Invariant.Weights.{refuse-own, refused-spent}
use Rattle.hub.proofs.Invariant.Tickets.{Tickets, Shift, Owes, Names, keep-tickets}

-- At the hub what is due is what the counter lacks, and everybody who resumes brings one permit.
abbrev pub TicketsIn : Queue → Type 0
TicketsIn m =
    let f = m.figures in
    Tickets (phases m) (places m) m.opening.parties f.issued f.resumed f.begun
    (down f.counter) (sum resuming m)

pub record Inv (k : ℕ) (m : Queue) : Type 0 where
  pub tickets : TicketsIn m
  -- counter + held + waits = K, the counter in its two halves
  pub owing : sum holding m + sum suspending m + sum live m + up m.figures.counter
      ≡ k + down m.figures.counter
  -- no permit is promised to two: what is still owed fits behind a ticket that is refused
  pub order : (t : ℕ) → m.figures.resumed ≤ t → 1 ≤ sum (refuse t) m + refused_cell (places m t)
      → down m.figures.counter ≤ sum suspending m + sum (above t) m
  -- two phases occur on a hub with radios alone
  pub radios : (p : ℕ) → radioed (phase_in (phases m) p) ≤ bit m.opening.named

-- Held + at the counter + on the way = K.
pub permits : (k : ℕ) (m : Queue) → Inv k m
    → sum holding m + sum resuming m + cell_sum permit_cell m + up m.figures.counter
    ≡ k + sum refusing m + cell_sum refused_cell m
permits k m inv = omega (arith, inv.owing, inv.tickets.balance)

abbrev pub ShiftIn : Queue → Queue → ℕ → Phase → Phase → ℕ → Place → Place → Type 0
ShiftIn m m' = Shift (phases m) (phases m') (places m) (places m')

-- What a row owes to keep the sums and ticket t. Of each pair the second is after the move:
-- the counter c, the tickets issued n and resumed d, the acquires begun g; s is the stage of t, and v
-- is 1 on a hub with radios.
pub record Local (f x : Phase) (t : ℕ) (b a : Place) (c c' : ℤ) (n n' d d' g g' s v : ℕ)
    : Type 0 where
  pub owing : holding x + suspending x + live x + up c' + down c
      ≡ holding f + suspending f + live f + up c + down c'
  pub permits : holding x + resuming x + permit_cell a + up c' + refusing f + refused_cell b
      ≡ holding f + resuming f + permit_cell b + up c + refusing x + refused_cell a
  pub line : resuming x + cancelling x + cancelled_cell a + d' + down c' + suspending f + n + handing f
      ≡ resuming f + cancelling f + cancelled_cell b + d + down c + suspending x + n' + handing x
  pub drawn : n' + drawing x + g ≤ n + drawing f + g'
  pub begun : g ≤ MAX_BEGUN → g' ≤ MAX_BEGUN
  pub owned : own t x + spent a + lt t n ≡ own t f + spent b + lt t n'
  pub handed : hand t x + served a + lt t d ≡ hand t f + served b + lt t d'
  pub low : least a + stage t f ≤ s + stage t x
  pub high : s + stage t x ≤ most a + stage t f
  pub away : (u : ℕ) → same t u ≡ 0
      → (own u x ≡ own u f) × (hand u x ≡ hand u f) × (stage u x ≡ stage u f)
      × (refuse u x ≡ refuse u f) × (stand u f ≤ stand u x)
  pub later : d ≤ d'
  pub refusal : refuse t x + refused_cell a ≤ refuse t f + refused_cell b + calm c'
  pub radios : radioed x ≤ v

-- And what it owes to the other tickets, and to the order of the line.
pub record Beside (f x : Phase) (t : ℕ) (c c' : ℤ) (n n' d d' : ℕ) : Type 0 where
  pub numbers : (u : ℕ) → same t u ≡ 0 → (lt u n' ≡ lt u n) × (lt u d' ≡ lt u d)
  pub order : (u : ℕ) → d' ≤ u → u < n
      → down c' + suspending f + above u f ≤ down c + suspending x + above u x + calm c'

abbrev pub LocalIn : Queue → Figures → Phase → Phase → ℕ → Place → Place → Type 0
LocalIn m h f x t b a =
    let e = m.figures in
    Local f x t b a e.counter h.counter e.issued h.issued e.resumed h.resumed
    e.begun h.begun (sum (stage t) m) (bit m.opening.named)

abbrev pub BesideIn : Queue → Figures → Phase → Phase → ℕ → Type 0
BesideIn m h f x t =
    let e = m.figures in
    Beside f x t e.counter h.counter e.issued h.issued e.resumed h.resumed

module _ (k : ℕ) (m m' : Queue) (p : ℕ) (f x : Phase) (t : ℕ) (b a : Place)
    (inv : Inv k m) (sh : ShiftIn m m' p f x t b a)
    (lo : LocalIn m m'.figures f x t b a) (be : BesideIn m m'.figures f x t) where
  -- a ticket that is refused was refused before, unless the counter is calm now
  refused-before : (u : ℕ) → Dec (u ≡ t) → calm m'.figures.counter ≡ 0
      → 1 ≤ sum (refuse u) m' + refused_cell (places m' u)
      → 1 ≤ sum (refuse u) m + refused_cell (places m u)
  refused-before u (yes y) z g =
      subst (λ (v : ℕ). 1 ≤ sum (refuse v) m + refused_cell (places m v)) (sym y)
      (omega (
        arith,
        subst (λ (v : ℕ). 1 ≤ sum (refuse v) m' + refused_cell (places m' v)) y g,
        sh.sums (refuse t),
        lo.refusal,
        ap refused_cell sh.cell_was,
        ap refused_cell sh.cell_now,
      ))
  refused-before u (no y) z g =
      omega (
        arith,
        g,
        sh.sums (refuse u),
        (lo.away u (same-other t u (λ i. y (sym i)))).3,
        ap refused_cell (sh.cell_others u y),
      )

  order' : (u : ℕ) → m'.figures.resumed ≤ u
      → 1 ≤ sum (refuse u) m' + refused_cell (places m' u)
      → down m'.figures.counter ≤ sum suspending m' + sum (above u) m'
  order' u i g = go (calm-or m'.figures.counter)
    where
      -- what is refused has a ticket already
      below : 1 ≤ sum (refuse u) m + refused_cell (places m u) → u < m.figures.issued
      below h =
          lt-pos u m.figures.issued
          (omega (
            arith,
            (inv.tickets.at u).owned,
            refused-spent (places m u),
            weight-le (refuse u) (own u) Phase.Free (phases m)
                (λ j l. refuse-own u (phase_in (phases m) j)),
          ))

      go : (calm m'.figures.counter ≡ 1) ⊎ (calm m'.figures.counter ≡ 0)
          → down m'.figures.counter ≤ sum suspending m' + sum (above u) m'
      go (inl z) = omega (arith, calm-down m'.figures.counter (omega arith))
      go (inr z) =
          let h = refused-before u (ℕ_discrete u t) z g in
          omega (
            arith,
            inv.order u (omega (arith, lo.later)) h,
            be.order u i (below h),
            sh.sums suspending,
            sh.sums (above u),
          )

  owes : let d = m.figures in let d' = m'.figures in
      Owes f x t b a d.issued d'.issued d.resumed d'.resumed d.begun d'.begun
      (down d.counter) (down d'.counter) (sum resuming m) (sum resuming m') (sum (stage t) m)
  owes =
      record {
        line = omega (arith, lo.line, sh.sums resuming);
        balance = omega (arith, lo.owing, lo.permits, sh.sums resuming);
        borne = omega (arith, sh.sums resuming);
        drawn = lo.drawn;
        begun = lo.begun;
        owned = lo.owned;
        handed = lo.handed;
        low = lo.low;
        high = lo.high;
        away = λ u z. (let v = lo.away u z in (v.0, v.1, v.2, v.4));
        numbers = be.numbers;
      }

  radios' : (q : ℕ) → Dec (q ≡ p) → radioed (phase_in (phases m') q) ≤ bit m.opening.named
  radios' q (yes z) =
      omega (arith, lo.radios, ap radioed (ap (phase_in (phases m')) z ∙ sh.now))
  radios' q (no y) = omega (arith, inv.radios q, ap radioed (sh.others q y))

  -- Every move keeps the invariant.
  pub keep : Names p t x b a → p < m.opening.parties
      → m'.opening ≡ m.opening → Inv k m'
  keep nm l e =
      record {
        tickets =
            subst
            (λ (o : Opening).
            Tickets (phases m') (places m') o.parties m'.figures.issued m'.figures.resumed
            m'.figures.begun (down m'.figures.counter) (sum resuming m'))
            (sym e) (keep-tickets inv.tickets sh owes nm l);
        owing = omega (
          arith,
          inv.owing,
          sh.sums holding,
          sh.sums suspending,
          sh.sums live,
          lo.owing,
        );
        order = order';
        radios = λ q.
            omega (arith, radios' q (ℕ_discrete q p), ap (λ (o : Opening). bit o.named) e);
      }
