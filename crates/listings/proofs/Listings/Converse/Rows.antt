-- The kinds of action of a thread, each with what it owes: on the counters, on a cell with its place, on a cell whose row is over.
use Prim.Native.Nat.{ℕ, ◌≤◌, ◌<◌}
use mathlib.Core.Path.{◌≡◌, refl, sym, ap, subst, ◌∙◌}
use mathlib.Core.Bool.{Bool, true, false, cond, not}
use mathlib.Core.Logic.{◌≢◌}
use native.Mathlib.Decide.{ℕ_discrete}
use native.Mathlib.Omega.{arith}
use lib.IntN.{ℤ}
use lib.ListN.{length}
use Rattle.hub.specs.declared.record.Figures.{Figures}
use Rattle.hub.specs.declared.record.Phase.{Phase}
use Rattle.hub.specs.declared.record.Place.{Place}
use Rattle.hub.specs.declared.record.Place.TheVariants as place
use Rattle.hub.specs.declared.record.PlaceSlot.{PlaceSlot}
use Rattle.listings.specs.Listings.Converse.{Follows, Passed, RowOver, Where, park_fits, phase_of}
use Rattle.listings.specs.Listings.Machine.{Cell, Line, Listing, Request, counters, is_null, is_parked_at, mark, override, goto, unparks}
use Rattle.listings.specs.Listings.Shown.{is_cancelled_cell, is_cell_of, is_parked}
use Rattle.hub.specs.Phases.{is_done, is_place_of, is_waiting}
use Rattle.hub.specs.Queue.{Queue, phases, places, write}
use Rattle.hub.specs.Record.{empty_seat, with_place}
use Rattle.hub.proofs.Laws.Bools.{never}
use Rattle.hub.proofs.Invariant.Rows.{write_same, write-other}
use Rattle.listings.proofs.Listings.Cells.{override-same, override-other}
use Rattle.listings.proofs.Listings.Kept.{set_to}
use Rattle.listings.proofs.Listings.Converse.Kept.{Moves, follow-call, follow-silent, onward-cell, onward-line}
use Rattle.listings.proofs.Listings.Converse.Requests.{lone}

-- A test that is known.
pub tested : (n : Queue) (p : ℕ) (b c : Bool) (u v : Line) (t : Listing) → b ≡ c → Follows n (goto p (cond c u v) t)
    → Follows n (goto p (cond b u v) t)
tested n p b c u v t e z = subst (λ (d : Bool). Follows n (goto p (cond d u v) t)) (sym e) z

-- Thread p comes to line y, and keeps its request.
pub moved : (p : ℕ) (s u : Listing) (y : Line) → u.lines ≡ s.lines → u.requests ≡ s.requests
    → Moves p s (goto p y u) y (s.requests p)
moved p s u y a b =
    record {
      line = override-same u.lines p y;
      request = ap (λ g. g p) b;
      lines = λ q d. override-other u.lines p y q d ∙ ap (λ g. g q) a;
      requests = λ q d. ap (λ g. g q) b;
    }

module _ (m : Queue) (s : Listing) (w : Follows m s) (p : ℕ) (l : p < length (phases m)) where
  -- Who does not wait is in no cell.
  pub alone : (f : Phase) → phase_of m p ≡ f → is_waiting f ≡ false → not (is_parked (s.requests p)) ≡ true
  alone f e i = lone f (s.requests p) i (subst (λ (g : Phase). park_fits g (s.requests p) ≡ true) e (w.parks p))

  same-request : (t : ℕ) → is_null (s.cells t) ≡ false → unparks p t s ≡ false → is_parked_at t (s.requests p) ≡ false
  same-request t i j = j

  -- The counters move: the party becomes x.
  pub count-row : (x : Phase) (h : Figures) (y : Line) (c : ℤ) (i r : ℕ) → c ≡ h.counter → i ≡ h.issued
      → s.resume_idx ≤ r → r ≤ h.resumed
      → ((t : ℕ) → r ≤ t → t < h.resumed → Passed m s t)
      → park_fits x (s.requests p) ≡ true
      → Where y (set_to m p x m.cells h) (goto p y (counters c i r s)) x (s.requests p)
      → Follows (set_to m p x m.cells h) (goto p y (counters c i r s))
  count-row x h y c i r a b up rh pp pk wh =
      let u = counters c i r s in
      let mv = moved p s u y refl refl in
      follow-call m s w p l x m.cells h (goto p y u) y (s.requests p)
      (onward-line m (set_to m p x m.cells h) s (goto p y u) p y (s.requests p) mv up (λ t e. e) same-request refl)
      a b rh pp w.cells mv wh pk

  -- Only the thread's line moves, and what it has drawn.
  pub silent-row : (y : Line) (r : ℕ) → s.resume_idx ≤ r → r ≤ m.figures.resumed
      → Where y m (goto p y (counters s.state s.suspend_idx r s)) (phase_of m p) (s.requests p)
      → Follows m (goto p y (counters s.state s.suspend_idx r s))
  silent-row y r up rh wh =
      let u = counters s.state s.suspend_idx r s in
      let mv = moved p s u y refl refl in
      follow-silent m s w p (goto p y u) y (s.requests p)
      (onward-line m m s (goto p y u) p y (s.requests p) mv up (λ t e. e) same-request refl)
      refl refl rh w.cells mv wh (w.parks p)

  -- A last write to a cell whose row is over.
  pub late-row : (y : Line) (t : ℕ) (c : Cell) → RowOver m s t → is_null c ≡ false → is_cancelled_cell c ≡ false
      → Where y m (goto p y (mark t c s)) (phase_of m p) (s.requests p)
      → Follows m (goto p y (mark t c s))
  unfolding is_place_of
  late-row y t c z n d wh =
      let u = mark t c s in
      let mv = moved p s u y refl refl in
      follow-silent m s w p (goto p y u) y (s.requests p)
      (onward-cell m m s (goto p y u) p y (s.requests p) mv (omega arith) (λ v e. e) same-request t c refl n (λ e. (z.other, d)))
      refl refl w.behind (λ v. cell v (ℕ_discrete v t)) mv wh (w.parks p)
    where
      cell : (u : ℕ) → Dec (u ≡ t) → is_done (places m u) ≡ false → is_cell_of (places m u) (override s.cells t c u) ≡ true
      cell u (yes e) i = never (sym (ap is_done (ap (places m) e ∙ z.done)) ∙ i)
      cell u (no e) i = subst (λ (b : Cell). is_cell_of (places m u) b ≡ true) (sym (override-other s.cells t c u e)) (w.cells u i)

  -- At a cell: its place is known, and is not done.
  pub open-place : (t : ℕ) (a : Place) → places m t ≡ a → is_done a ≡ false → is_done (places m t) ≡ false
  open-place t a i d = ap is_done i ∙ d

  pub cell-is : (t : ℕ) (a : Place) → places m t ≡ a → is_done a ≡ false → is_cell_of a (s.cells t) ≡ true
  cell-is t a i d = subst (λ (b : Place). is_cell_of b (s.cells t) ≡ true) i (w.cells t (open-place t a i d))

  module _ (t : ℕ) (nd : is_done (places m t) ≡ false) where
    not_done : {A : Type 0} → places m t ≡ place.Done → A
    unfolding is_place_of
    not_done e = never (sym (ap is_done e) ∙ nd)

    pub dones : (a : Place) (u : ℕ) → places m u ≡ place.Done
        → (write m.cells t (with_place a empty_seat) u).place ≡ place.Done
    dones a u e = go (ℕ_discrete u t)
      where
        go : Dec (u ≡ t) → (write m.cells t (with_place a empty_seat) u).place ≡ place.Done
        go (yes z) = not_done (ap (places m) (sym z) ∙ e)
        go (no z) = ap (λ (b : PlaceSlot). b.place) (write-other m.cells t (with_place a empty_seat) u z) ∙ e

    pub cells-after : (a : Place) (g : ℕ → Cell) → (is_done a ≡ false → is_cell_of a (g t) ≡ true)
        → ((u : ℕ) → u ≢ t → g u ≡ s.cells u)
        → (u : ℕ) → is_done (write m.cells t (with_place a empty_seat) u).place ≡ false
        → is_cell_of (write m.cells t (with_place a empty_seat) u).place (g u) ≡ true
    cells-after a g c co u i = go (ℕ_discrete u t)
      where
        go : Dec (u ≡ t) → is_cell_of (write m.cells t (with_place a empty_seat) u).place (g u) ≡ true
        go (yes z) =
            let e = ap (λ (b : PlaceSlot). b.place) (ap (write m.cells t (with_place a empty_seat)) z
            ∙ write_same m.cells t (with_place a empty_seat)) in
            subst (λ (b : Place). is_cell_of b (g u) ≡ true) (sym e)
            (subst (λ (r : ℕ). is_cell_of a (g r) ≡ true) (sym z) (c (sym (ap is_done e) ∙ i)))
        go (no z) =
            let e = ap (λ (b : PlaceSlot). b.place) (write-other m.cells t (with_place a empty_seat) u z) in
            subst (λ (b : Place). is_cell_of b (g u) ≡ true) (sym e)
            (subst (λ (b : Cell). is_cell_of (places m u) b ≡ true) (sym (co u z)) (w.cells u (sym (ap is_done e) ∙ i)))

    -- The place becomes a and its cell c: the party becomes x, and its request v.
    pub cell_row : (x : Phase) (a : Place) (c : Cell) (y : Line) (v : Request) (s' : Listing)
        → s'.state ≡ s.state → s'.suspend_idx ≡ s.suspend_idx → s'.resume_idx ≡ s.resume_idx
        → s'.cells ≡ override s.cells t c → Moves p s s' y v
        → (is_done a ≡ false → is_cell_of a c ≡ true) → is_null c ≡ false
        → ((u : ℕ) → is_null (s.cells u) ≡ false → unparks p u s ≡ false → is_parked_at u v ≡ false)
        → park_fits x v ≡ true
        → Where y (set_to m p x (write m.cells t (with_place a empty_seat)) m.figures) s' x v
        → Follows (set_to m p x (write m.cells t (with_place a empty_seat)) m.figures) s'
    cell_row x a c y v s' q₁ q₂ q₃ q₄ mv i n un pk wh =
        let m' = set_to m p x (write m.cells t (with_place a empty_seat)) m.figures in
        follow-call m s w p l x (write m.cells t (with_place a empty_seat)) m.figures s' y v
        (onward-cell m m' s s' p y v mv (omega (arith, q₃)) (dones a) un t c q₄ n (λ e. not_done e))
        (q₁ ∙ w.counter) (q₂ ∙ w.issued) (omega (arith, q₃, w.behind)) (λ u j k. w.passed u (omega (arith, q₃, j)) k)
        (cells-after a s'.cells
        (λ d. subst (λ (b : Cell). is_cell_of a b ≡ true) (sym (ap (λ g. g t) q₄ ∙ override-same s.cells t c)) (i d))
        (λ u d. ap (λ g. g u) q₄ ∙ override-other s.cells t c u d))
        mv wh pk

    -- The same, with the request kept.
    pub mark-row : (x : Phase) (a : Place) (c : Cell) (y : Line) → (is_done a ≡ false → is_cell_of a c ≡ true) → is_null c ≡ false
        → park_fits x (s.requests p) ≡ true
        → Where y (set_to m p x (write m.cells t (with_place a empty_seat)) m.figures) (goto p y (mark t c s)) x (s.requests p)
        → Follows (set_to m p x (write m.cells t (with_place a empty_seat)) m.figures) (goto p y (mark t c s))
    mark-row x a c y i n pk wh =
        cell_row x a c y (s.requests p) (goto p y (mark t c s)) refl refl refl refl (moved p s (mark t c s) y refl refl) i n
        same-request pk wh

    -- The place is done, and its cell stays.
    pub done-row : (x : Phase) (y : Line) → park_fits x (s.requests p) ≡ true
        → Where y (set_to m p x (write m.cells t (with_place place.Done empty_seat)) m.figures) (goto p y s) x (s.requests p)
        → Follows (set_to m p x (write m.cells t (with_place place.Done empty_seat)) m.figures) (goto p y s)
    unfolding is_place_of
    done-row x y pk wh =
        let m' = set_to m p x (write m.cells t (with_place place.Done empty_seat)) m.figures in
        let mv = moved p s s y refl refl in
        follow-call m s w p l x (write m.cells t (with_place place.Done empty_seat)) m.figures (goto p y s) y (s.requests p)
        (onward-line m m' s (goto p y s) p y (s.requests p) mv (omega arith) (dones place.Done) same-request refl)
        w.counter w.issued w.behind w.passed (cells-after place.Done s.cells (λ d. never d) (λ u d. refl))
        mv wh pk
