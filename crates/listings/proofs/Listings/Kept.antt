-- The unbounded queue beside the listings' state: what it shows, and what keeps it so: the tidying, and what a row owes.
use Prim.Native.Nat.{ℕ, zero, suc, ◌+◌, ◌≤◌, ◌<◌}
use mathlib.Core.Path.{◌≡◌, refl, sym, ap, subst, ◌∙◌}
use mathlib.Core.Bool.{Bool, true, false, cond}
use mathlib.Core.List.{List}
use mathlib.Core.Logic.{◌≢◌}
use native.Mathlib.Decide.{ℕ_discrete}
use native.Mathlib.Omega.{arith}
use lib.IntN.{ℤ}
use lib.ListN.{length}
use lib.Seq.{get_or-set_same, get_or-set_other}
use Rattle.hub.specs.declared.record.Figures.{Figures}
use Rattle.hub.specs.declared.record.Phase.{Phase}
use Rattle.hub.specs.declared.record.Place.{Place}
use Rattle.hub.specs.declared.record.Place.TheVariants as place
use Rattle.hub.specs.declared.record.PlaceSlot.{PlaceSlot}
use Rattle.hub.specs.declared.record.Pool.{Pool}
use Rattle.hub.specs.Ledger.{phase_in}
use Rattle.listings.specs.Listings.Machine.{Cell, Line, Listing, Request, counters, goto}
use Rattle.listings.specs.Listings.Shown.{is_cancelled_cell, is_cell_of, is_last_mark, line_of, request_fits}
use Rattle.hub.specs.Queue.{Queue, can_skip, phases, skip, skipped, with_parts, with_pool, write}
use Rattle.hub.specs.Record.{empty_seat, free_slot, read_slot, with_phase, with_place, write_slot}
use Rattle.hub.proofs.Laws.Slots.{read-phase, write-phase}
use Rattle.hub.proofs.Invariant.Rows.{write_same, write-other}
use Rattle.hub.proofs.Invariant.Schedules.{is-cancelled}
use Rattle.listings.proofs.Listings.Cells.{override-same, override-other, cancelled-cell}

-- As the hub's record shows a state, with a cell for each place.
pub record Shows (m : Queue) (s : Listing) : Type 0 where
  pub counter : s.state ≡ m.figures.counter
  pub issued : s.suspend_idx ≡ m.figures.issued
  pub behind : s.resume_idx ≤ m.figures.resumed
  pub passed : (t : ℕ) → s.resume_idx ≤ t → t < m.figures.resumed → is_cancelled_cell (s.cells t) ≡ true
  pub cells : (t : ℕ) → is_cell_of (m.cells t).place (s.cells t) ≡ true
  pub lines : (p : ℕ) → s.lines p ≡ line_of (read_slot m.slots p).phase
  pub requests : (p : ℕ) → request_fits (read_slot m.slots p).phase (s.requests p) ≡ true

-- A cancelled cell passed by the queue: the listings' state stays.
skipped-shows : (m : Queue) (s : Listing) → Shows m s → (m.cells m.figures.resumed).place ≡ place.Cancelled
    → Shows (skipped m) s
skipped-shows m s w c =
    record {
      counter = w.counter;
      issued = w.issued;
      behind = omega (arith, w.behind);
      passed = λ t i j. passes t (ℕ_discrete t m.figures.resumed) i j;
      cells = λ t. shown t (ℕ_discrete t m.figures.resumed);
      lines = w.lines;
      requests = w.requests;
    }
  where
    there : is_cancelled_cell (s.cells m.figures.resumed) ≡ true
    there = subst (λ (a : Place). is_cell_of a (s.cells m.figures.resumed) ≡ true) c (w.cells m.figures.resumed)

    passes : (t : ℕ) → Dec (t ≡ m.figures.resumed) → s.resume_idx ≤ t → t < m.figures.resumed + 1
        → is_cancelled_cell (s.cells t) ≡ true
    passes t (yes z) i j = subst (λ (u : ℕ). is_cancelled_cell (s.cells u) ≡ true) (sym z) there
    passes t (no z) i j = w.passed t i (omega arith)

    shown : (t : ℕ) → Dec (t ≡ m.figures.resumed)
        → is_cell_of ((skipped m).cells t).place (s.cells t) ≡ true
    shown t (yes z) =
        subst (λ (u : ℕ). is_cell_of ((skipped m).cells u).place (s.cells u) ≡ true) (sym z)
        (subst (λ (a : PlaceSlot). is_cell_of a.place (s.cells m.figures.resumed) ≡ true)
        (sym (write_same m.cells m.figures.resumed _))
        (subst (λ (c : Cell). is_last_mark c ≡ true) (sym (cancelled-cell (s.cells m.figures.resumed) there)) refl))
    shown t (no z) =
        subst (λ (a : PlaceSlot). is_cell_of a.place (s.cells t) ≡ true)
        (sym (write-other m.cells m.figures.resumed _ t z)) (w.cells t)

pub skip-shows : (n : ℕ) (m : Queue) (s : Listing) → Shows m s → Shows (skip n m) s
unfolding skip
skip-shows zero m s w = w
skip-shows (suc n) m s w =
    go (can_skip m) refl (λ c. skip-shows n (skipped m) s (skipped-shows m s w (is-cancelled _ c)))
  where
    go : (b : Bool) → can_skip m ≡ b → (can_skip m ≡ true → Shows (skip n (skipped m)) s)
        → Shows (cond b (skip n (skipped m)) m) s
    go true e f = f e
    go false e f = w

-- Radios do not matter.
pub pool-shows : (m : Queue) (s : Listing) (q : Pool) → Shows m s → Shows (with_pool q m) s
pool-shows m s q w =
    record {
      counter = w.counter;
      issued = w.issued;
      behind = w.behind;
      passed = w.passed;
      cells = w.cells;
      lines = w.lines;
      requests = w.requests;
    }

-- The queue with a slot, the cells and the figures set.
abbrev pub set_to : Queue → ℕ → Phase → (ℕ → PlaceSlot) → Figures → Queue
set_to m p x g h = with_parts h g (write_slot m.slots p (with_phase x free_slot)) m.pool m

-- Its phases.
module _ (m : Queue) (p : ℕ) (l : p < length (phases m)) (x : Phase) where
  pub phase-now : (read_slot (write_slot m.slots p (with_phase x free_slot)) p).phase ≡ x
  phase-now =
      read-phase (write_slot m.slots p (with_phase x free_slot)) p
      ∙ ap (λ (k : List Phase). phase_in k p) (write-phase m.slots p (with_phase x free_slot))
      ∙ get_or-set_same (phases m) p x Phase.Free l

  pub phase-other : (q : ℕ) → q ≢ p
      → (read_slot (write_slot m.slots p (with_phase x free_slot)) q).phase ≡ (read_slot m.slots q).phase
  phase-other q y =
      read-phase (write_slot m.slots p (with_phase x free_slot)) q
      ∙ ap (λ (k : List Phase). phase_in k q) (write-phase m.slots p (with_phase x free_slot))
      ∙ get_or-set_other (phases m) p q x Phase.Free y
      ∙ sym (read-phase m.slots q)

-- What a row owes: s' is what the listings' actions leave.
module _ (m : Queue) (s : Listing) (w : Shows m s) (p : ℕ) (l : p < length (phases m)) (x : Phase) where
  pub keep : (g : ℕ → PlaceSlot) (h : Figures) (s' : Listing)
      → s'.state ≡ h.counter
      → s'.suspend_idx ≡ h.issued
      → s'.resume_idx ≤ h.resumed
      → ((t : ℕ) → s'.resume_idx ≤ t → t < h.resumed → is_cancelled_cell (s'.cells t) ≡ true)
      → ((t : ℕ) → is_cell_of (g t).place (s'.cells t) ≡ true)
      → s'.lines p ≡ line_of x
      → ((q : ℕ) → q ≢ p → s'.lines q ≡ s.lines q)
      → request_fits x (s'.requests p) ≡ true
      → ((q : ℕ) → q ≢ p → s'.requests q ≡ s.requests q)
      → Shows (set_to m p x g h) s'
  keep g h s' a b c d e ln lo sn so =
      record {
        counter = a;
        issued = b;
        behind = c;
        passed = d;
        cells = e;
        lines = λ q. line q (ℕ_discrete q p);
        requests = λ q. sign q (ℕ_discrete q p);
      }
    where
      line : (q : ℕ) → Dec (q ≡ p)
          → s'.lines q ≡ line_of (read_slot (write_slot m.slots p (with_phase x free_slot)) q).phase
      line q (yes z) =
          subst (λ (r : ℕ). s'.lines r ≡ line_of (read_slot (write_slot m.slots p (with_phase x free_slot)) r).phase) (sym z)
          (ln ∙ ap line_of (sym (phase-now m p l x)))
      line q (no y) = lo q y ∙ w.lines q ∙ ap line_of (sym (phase-other m p l x q y))

      sign : (q : ℕ) → Dec (q ≡ p)
          → request_fits (read_slot (write_slot m.slots p (with_phase x free_slot)) q).phase (s'.requests q) ≡ true
      sign q (yes z) =
          subst (λ (r : ℕ). request_fits (read_slot (write_slot m.slots p (with_phase x free_slot)) r).phase (s'.requests r) ≡ true)
          (sym z) (subst (λ (f : Phase). request_fits f (s'.requests p) ≡ true) (sym (phase-now m p l x)) sn)
      sign q (no y) =
          subst (λ (f : Phase). request_fits f (s'.requests q) ≡ true) (sym (phase-other m p l x q y))
          (subst (λ (g : Request). request_fits (read_slot m.slots q).phase g ≡ true) (sym (so q y)) (w.requests q))

  -- A row on the counters.
  pub phase-row : (h : Figures) (c : ℤ) (i : ℕ) (y : Line) → c ≡ h.counter → i ≡ h.issued
      → h.resumed ≡ m.figures.resumed → y ≡ line_of x → request_fits x (s.requests p) ≡ true
      → Shows (set_to m p x m.cells h) (goto p y (counters c i s.resume_idx s))
  phase-row h c i y a b e f j =
      keep m.cells h (goto p y (counters c i s.resume_idx s)) a b
      (omega (arith, w.behind, e)) (λ t u v. w.passed t u (omega (arith, v, e))) w.cells
      (override-same s.lines p y ∙ f) (λ q d. override-other s.lines p y q d) j (λ q d. refl)

  -- A row on the cell of ticket t.
  pub cell_row : (t : ℕ) (a : Place) (s' : Listing)
      → s'.state ≡ s.state → s'.suspend_idx ≡ s.suspend_idx → s'.resume_idx ≡ s.resume_idx
      → is_cell_of a (s'.cells t) ≡ true
      → ((u : ℕ) → u ≢ t → s'.cells u ≡ s.cells u)
      → (is_cancelled_cell (s.cells t) ≡ true → is_cancelled_cell (s'.cells t) ≡ true)
      → s'.lines p ≡ line_of x
      → ((q : ℕ) → q ≢ p → s'.lines q ≡ s.lines q)
      → request_fits x (s'.requests p) ≡ true
      → ((q : ℕ) → q ≢ p → s'.requests q ≡ s.requests q)
      → Shows (set_to m p x (write m.cells t (with_place a empty_seat)) m.figures) s'
  cell_row t a s' i j k c co cc' ln lo sn so =
      keep (write m.cells t (with_place a empty_seat)) m.figures s' (i ∙ w.counter) (j ∙ w.issued)
      (omega (arith, w.behind, k)) (λ u v z. passes u (ℕ_discrete u t) (w.passed u (omega (arith, v, k)) z))
      (λ u. shown u (ℕ_discrete u t)) ln lo sn so
    where
      passes : (u : ℕ) → Dec (u ≡ t) → is_cancelled_cell (s.cells u) ≡ true → is_cancelled_cell (s'.cells u) ≡ true
      passes u (yes z) y =
          subst (λ (v : ℕ). is_cancelled_cell (s'.cells v) ≡ true) (sym z)
          (cc' (subst (λ (v : ℕ). is_cancelled_cell (s.cells v) ≡ true) z y))
      passes u (no d) y = subst (λ (b : Cell). is_cancelled_cell b ≡ true) (sym (co u d)) y

      shown : (u : ℕ) → Dec (u ≡ t)
          → is_cell_of (write m.cells t (with_place a empty_seat) u).place (s'.cells u) ≡ true
      shown u (yes z) =
          subst (λ (v : ℕ). is_cell_of (write m.cells t (with_place a empty_seat) v).place (s'.cells v) ≡ true) (sym z)
          (subst (λ (b : PlaceSlot). is_cell_of b.place (s'.cells t) ≡ true)
          (sym (write_same m.cells t (with_place a empty_seat))) c)
      shown u (no d) =
          subst (λ (b : PlaceSlot). is_cell_of b.place (s'.cells u) ≡ true)
          (sym (write-other m.cells t (with_place a empty_seat) u d))
          (subst (λ (b : Cell). is_cell_of (m.cells u).place b ≡ true) (sym (co u d)) (w.cells u))
