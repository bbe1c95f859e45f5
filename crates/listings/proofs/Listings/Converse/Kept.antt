-- What an event of thread p owes, so that the queue follows: with a call, and without one.
use Prim.Native.Nat.{ℕ, ◌≤◌, ◌<◌}
use mathlib.Core.Path.{◌≡◌, sym, ap, subst, ◌∙◌}
use mathlib.Core.Bool.{true, false}
use mathlib.Core.Logic.{◌≢◌}
use native.Mathlib.Decide.{ℕ_discrete}
use native.Mathlib.Omega.{arith}
use lib.ListN.{length}
use Rattle.hub.specs.declared.record.Figures.{Figures}
use Rattle.hub.specs.declared.record.Phase.{Phase}
use Rattle.hub.specs.declared.record.Place.TheVariants as place
use Rattle.hub.specs.declared.record.PlaceSlot.{PlaceSlot}
use Rattle.listings.specs.Listings.Converse.{Follows, Passed, Where, park_fits, phase_of}
use Rattle.listings.specs.Listings.Machine.{Cell, Line, Listing, Request, is_null, is_parked_at, override, unparks}
use Rattle.listings.specs.Listings.Shown.{is_cancelled_cell, is_cell_of}
use Rattle.hub.specs.Phases.{is_done}
use Rattle.hub.specs.Queue.{Queue, phases, places}
use Rattle.hub.proofs.Laws.Bools.{never}
use Rattle.listings.proofs.Listings.Cells.{override-same, override-other}
use Rattle.listings.proofs.Listings.Kept.{phase-now, phase-other, set_to}
use Rattle.listings.proofs.Listings.Converse.Onward.{Onward, passed-kept, where-kept}

-- Where a thread is, its line and request known.
own_at : (m : Queue) (s : Listing) (p : ℕ) (x : Phase) (y : Line) (g : Request) → s.lines p ≡ y → s.requests p ≡ g
    → Where y m s x g → Where (s.lines p) m s x (s.requests p)
own_at m s p x y g a b z =
    subst (λ (v : Line). Where v m s x (s.requests p)) (sym a) (subst (λ (v : Request). Where y m s x v) (sym b) z)

-- From s to s' thread p comes to line y, with the request v; nobody else does anything.
pub record Moves (p : ℕ) (s s' : Listing) (y : Line) (v : Request) : Type 0 where
  pub line : s'.lines p ≡ y
  pub request : s'.requests p ≡ v
  pub lines : (q : ℕ) → q ≢ p → s'.lines q ≡ s.lines q
  pub requests : (q : ℕ) → q ≢ p → s'.requests q ≡ s.requests q

-- With a call: the party becomes x, the cells g and the figures h.
module _ (m : Queue) (s : Listing) (w : Follows m s) (p : ℕ) (l : p < length (phases m)) (x : Phase) where
  pub follow-call : (g : ℕ → PlaceSlot) (h : Figures) (s' : Listing) (y : Line) (v : Request)
      → Onward m (set_to m p x g h) s s'
      → s'.state ≡ h.counter
      → s'.suspend_idx ≡ h.issued
      → s'.resume_idx ≤ h.resumed
      → ((t : ℕ) → s'.resume_idx ≤ t → t < h.resumed → Passed m s t)
      → ((t : ℕ) → is_done (g t).place ≡ false → is_cell_of (g t).place (s'.cells t) ≡ true)
      → Moves p s s' y v
      → Where y (set_to m p x g h) s' x v
      → park_fits x v ≡ true
      → Follows (set_to m p x g h) s'
  follow-call g h s' y v o a b c d e mv own pk =
      record {
        counter = a;
        issued = b;
        behind = c;
        passed = λ t i j. passed-kept o t (d t i j);
        cells = e;
        at = λ q. here q (ℕ_discrete q p);
        parks = λ q. park q (ℕ_discrete q p);
      }
    where
      here : (q : ℕ) → Dec (q ≡ p)
          → Where (s'.lines q) (set_to m p x g h) s' (phase_of (set_to m p x g h) q) (s'.requests q)
      here q (yes z) =
          subst (λ (r : ℕ). Where (s'.lines r) (set_to m p x g h) s' (phase_of (set_to m p x g h) r) (s'.requests r)) (sym z)
          (subst (λ (f : Phase). Where (s'.lines p) (set_to m p x g h) s' f (s'.requests p)) (sym (phase-now m p l x))
          (own_at (set_to m p x g h) s' p x y v mv.line mv.request own))
      here q (no u) =
          subst (λ (a : Line). Where a (set_to m p x g h) s' (phase_of (set_to m p x g h) q) (s'.requests q))
          (sym (mv.lines q u))
          (subst (λ (a : Request). Where (s.lines q) (set_to m p x g h) s' (phase_of (set_to m p x g h) q) a)
          (sym (mv.requests q u))
          (subst (λ (f : Phase). Where (s.lines q) (set_to m p x g h) s' f (s.requests q)) (sym (phase-other m p l x q u))
          (where-kept o (s.lines q) (phase_of m q) (s.requests q) (w.at q))))

      park : (q : ℕ) → Dec (q ≡ p) → park_fits (phase_of (set_to m p x g h) q) (s'.requests q) ≡ true
      park q (yes z) =
          subst (λ (r : ℕ). park_fits (phase_of (set_to m p x g h) r) (s'.requests r) ≡ true) (sym z)
          (subst (λ (f : Phase). park_fits f (s'.requests p) ≡ true) (sym (phase-now m p l x))
          (subst (λ (a : Request). park_fits x a ≡ true) (sym mv.request) pk))
      park q (no u) =
          subst (λ (f : Phase). park_fits f (s'.requests q) ≡ true) (sym (phase-other m p l x q u))
          (subst (λ (a : Request). park_fits (phase_of m q) a ≡ true) (sym (mv.requests q u)) (w.parks q))

-- Without one: the queue stays.
pub follow-silent : (m : Queue) (s : Listing) → Follows m s → (p : ℕ) (s' : Listing) (y : Line) (v : Request)
    → Onward m m s s'
    → s'.state ≡ s.state
    → s'.suspend_idx ≡ s.suspend_idx
    → s'.resume_idx ≤ m.figures.resumed
    → ((t : ℕ) → is_done (places m t) ≡ false → is_cell_of (places m t) (s'.cells t) ≡ true)
    → Moves p s s' y v
    → Where y m s' (phase_of m p) v
    → park_fits (phase_of m p) v ≡ true
    → Follows m s'
follow-silent m s w p s' y v o a b c e mv own pk =
    record {
      counter = a ∙ w.counter;
      issued = b ∙ w.issued;
      behind = c;
      passed = λ t i j. passed-kept o t (w.passed t (omega (arith, o.up, i)) j);
      cells = e;
      at = λ q. here q (ℕ_discrete q p);
      parks = λ q. park q (ℕ_discrete q p);
    }
  where
    here : (q : ℕ) → Dec (q ≡ p) → Where (s'.lines q) m s' (phase_of m q) (s'.requests q)
    here q (yes z) =
        subst (λ (r : ℕ). Where (s'.lines r) m s' (phase_of m r) (s'.requests r)) (sym z)
        (own_at m s' p (phase_of m p) y v mv.line mv.request own)
    here q (no u) =
        subst (λ (a : Line). Where a m s' (phase_of m q) (s'.requests q)) (sym (mv.lines q u))
        (subst (λ (a : Request). Where (s.lines q) m s' (phase_of m q) a) (sym (mv.requests q u))
        (where-kept o (s.lines q) (phase_of m q) (s.requests q) (w.at q)))

    park : (q : ℕ) → Dec (q ≡ p) → park_fits (phase_of m q) (s'.requests q) ≡ true
    park q (yes z) =
        subst (λ (r : ℕ). park_fits (phase_of m r) (s'.requests r) ≡ true) (sym z)
        (subst (λ (a : Request). park_fits (phase_of m p) a ≡ true) (sym mv.request) pk)
    park q (no u) = subst (λ (a : Request). park_fits (phase_of m q) a ≡ true) (sym (mv.requests q u)) (w.parks q)

-- Nothing is undone by an event of thread p after which its request, v, is in no cell that it was not in, or in one that was null.
module _ (m m' : Queue) (s s' : Listing) (p : ℕ) (y : Line) (v : Request) (mv : Moves p s s' y v)
    (up : s.resume_idx ≤ s'.resume_idx)
    (dones : (t : ℕ) → places m t ≡ place.Done → places m' t ≡ place.Done)
    (parks : (t : ℕ) → is_null (s.cells t) ≡ false → unparks p t s ≡ false → is_parked_at t v ≡ false) where
  still-fails : (q t : ℕ) → is_null (s.cells t) ≡ false → unparks q t s ≡ false → unparks q t s' ≡ false
  still-fails q t i j = go (ℕ_discrete q p)
    where
      go : Dec (q ≡ p) → is_parked_at t (s'.requests q) ≡ false
      go (yes z) =
          subst (λ (r : ℕ). is_parked_at t (s'.requests r) ≡ false) (sym z)
          (ap (is_parked_at t) mv.request ∙ parks t i (subst (λ (r : ℕ). is_parked_at t (s.requests r) ≡ false) z j))
      go (no z) = ap (is_parked_at t) (mv.requests q z) ∙ j

  pub onward-line : s'.cells ≡ s.cells → Onward m m' s s'
  onward-line e =
      record {
        up = up;
        dones = dones;
        other = λ t d z. subst (λ (g : ℕ → Cell). is_cancelled_cell (g t) ≡ false) (sym e) z;
        kept = λ t d z. subst (λ (g : ℕ → Cell). is_cancelled_cell (g t) ≡ true) (sym e) z;
        seen = λ t z. subst (λ (g : ℕ → Cell). is_null (g t) ≡ false) (sym e) z;
        fails = still-fails;
      }

  pub onward-cell : (u : ℕ) (c : Cell) → s'.cells ≡ override s.cells u c → is_null c ≡ false
      → (places m u ≡ place.Done → (is_cancelled_cell (s.cells u) ≡ false) × (is_cancelled_cell c ≡ false)) → Onward m m' s s'
  onward-cell u c e n d =
      record {
        up = up;
        dones = dones;
        other = λ t i z. subst (λ (g : ℕ → Cell). is_cancelled_cell (g t) ≡ false) (sym e) (other t (ℕ_discrete t u) i z);
        kept = λ t i z. subst (λ (g : ℕ → Cell). is_cancelled_cell (g t) ≡ true) (sym e) (kept t (ℕ_discrete t u) i z);
        seen = λ t z. subst (λ (g : ℕ → Cell). is_null (g t) ≡ false) (sym e) (seen t (ℕ_discrete t u) z);
        fails = still-fails;
      }
    where
      now-at : (t : ℕ) → t ≡ u → override s.cells u c t ≡ c
      now-at t z = ap (override s.cells u c) z ∙ override-same s.cells u c

      other : (t : ℕ) → Dec (t ≡ u) → places m t ≡ place.Done → is_cancelled_cell (s.cells t) ≡ false
          → is_cancelled_cell (override s.cells u c t) ≡ false
      other t (yes z) i j = ap is_cancelled_cell (now-at t z) ∙ (d (ap (places m) (sym z) ∙ i)).1
      other t (no z) i j = ap is_cancelled_cell (override-other s.cells u c t z) ∙ j

      kept : (t : ℕ) → Dec (t ≡ u) → places m t ≡ place.Done → is_cancelled_cell (s.cells t) ≡ true
          → is_cancelled_cell (override s.cells u c t) ≡ true
      kept t (yes z) i j =
          never (sym j ∙ ap (λ (r : ℕ). is_cancelled_cell (s.cells r)) z ∙ (d (ap (places m) (sym z) ∙ i)).0)
      kept t (no z) i j = ap is_cancelled_cell (override-other s.cells u c t z) ∙ j

      seen : (t : ℕ) → Dec (t ≡ u) → is_null (s.cells t) ≡ false → is_null (override s.cells u c t) ≡ false
      seen t (yes z) j = ap is_null (now-at t z) ∙ n
      seen t (no z) j = ap is_null (override-other s.cells u c t z) ∙ j
