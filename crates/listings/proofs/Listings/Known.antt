-- What is known of a party's thread, and a row that writes one cell.
use Prim.Native.Nat.{ℕ, ◌<◌}
use mathlib.Core.Path.{◌≡◌, refl, sym, ap, subst, ◌∙◌}
use mathlib.Core.Bool.{Bool, true, false, cond, not}
use mathlib.Core.Logic.{◌≢◌}
use lib.ListN.{length}
use Rattle.hub.specs.declared.record.Phase.{Phase}
use Rattle.hub.specs.declared.record.Place.{Place}
use Rattle.listings.specs.Listings.Machine.{Cell, Line, Listing, Request, is_parked_at, mark, override, goto}
use Rattle.listings.specs.Listings.Shown.{GAVE_UP, is_aborted, is_cancelled_cell, is_cell_of, is_fresh, is_parked, line_of, request_fits}
use Rattle.hub.specs.Phases.{is_one_of, is_waiting, ticket_of}
use Rattle.hub.specs.Queue.{Queue, phases, places, write}
use Rattle.hub.specs.Record.{empty_seat, read_slot, with_place}
use Rattle.hub.specs.Table.{can_cancel}
use Rattle.hub.proofs.Laws.Bools.{never}
use Rattle.listings.proofs.Listings.Cells.{aborted-apart, fresh-apart, override-same, override-other}
use Rattle.listings.proofs.Listings.Kept.{Shows, cell_row, set_to}

-- From s to u only thread p came to another line.
pub record Came (p : ℕ) (s u : Listing) : Type 0 where
  pub state : u.state ≡ s.state
  pub suspend_idx : u.suspend_idx ≡ s.suspend_idx
  pub resume_idx : u.resume_idx ≡ s.resume_idx
  pub cells : u.cells ≡ s.cells
  pub requests : u.requests ≡ s.requests
  pub lines : (q : ℕ) → q ≢ p → u.lines q ≡ s.lines q

pub came-here : (p : ℕ) (s : Listing) → Came p s s
came-here p s =
    record {
      state = refl;
      suspend_idx = refl;
      resume_idx = refl;
      cells = refl;
      requests = refl;
      lines = λ q d. refl;
    }

pub came-to : (p : ℕ) (s u : Listing) (y : Line) → Came p s u → Came p s (goto p y u)
came-to p s u y c =
    record {
      state = c.state;
      suspend_idx = c.suspend_idx;
      resume_idx = c.resume_idx;
      cells = c.cells;
      requests = c.requests;
      lines = λ q d. override-other u.lines p y q d ∙ c.lines q d;
    }

pub line-now : (p : ℕ) (y : Line) (u : Listing) → (goto p y u).lines p ≡ y
line-now p y u = override-same u.lines p y

-- A cell that is known not to be cancelled.
pub other-cell : (s : Listing) (t : ℕ) (b c : Cell) → s.cells t ≡ b → is_cancelled_cell b ≡ false
    → is_cancelled_cell (s.cells t) ≡ true → is_cancelled_cell c ≡ true
other-cell s t b c e i z = never (sym z ∙ ap is_cancelled_cell e ∙ i)

-- Who does not wait has a request that is in no cell.
pub apart-unless : (f : Phase) (g : Request) → is_waiting f ≡ false → request_fits f g ≡ true → not (is_parked g) ≡ true
unfolding request_fits
apart-unless f g v y = go (is_waiting f) (is_one_of GAVE_UP f) (can_cancel f) v y
  where
    go : (a b c : Bool) → a ≡ false
        → cond a (is_parked_at (ticket_of f) g) (cond b (is_aborted g) (cond c (is_fresh g) (not (is_parked g)))) ≡ true
        → not (is_parked g) ≡ true
    go true b c i z = never i
    go false true c i z = aborted-apart g z
    go false false true i z = fresh-apart g z
    go false false false i z = z

module _ (m : Queue) (s : Listing) (w : Shows m s) where
  pub line_at : (p : ℕ) (f : Phase) → (read_slot m.slots p).phase ≡ f → s.lines p ≡ line_of f
  line_at p f e = w.lines p ∙ ap line_of e

  pub request-at : (p : ℕ) (f : Phase) → (read_slot m.slots p).phase ≡ f → request_fits f (s.requests p) ≡ true
  request-at p f e = subst (λ (g : Phase). request_fits g (s.requests p) ≡ true) e (w.requests p)

  pub cell_at : (t : ℕ) (a : Place) → places m t ≡ a → is_cell_of a (s.cells t) ≡ true
  cell_at t a i = subst (λ (b : Place). is_cell_of b (s.cells t) ≡ true) i (w.cells t)

  -- A row on the place of ticket t, which becomes a: its cell becomes c, or stays; p is of phase x, and comes to line y.
  module _ (p : ℕ) (l : p < length (phases m)) (x : Phase) (t : ℕ) (a : Place) (u : Listing) (cm : Came p s u)
      (y : Line) (e : y ≡ line_of x) (r : request_fits x (s.requests p) ≡ true) where
    fits : request_fits x (u.requests p) ≡ true
    fits = subst (λ g. request_fits x (g p) ≡ true) (sym cm.requests) r

    same-requests : (q : ℕ) → q ≢ p → u.requests q ≡ s.requests q
    same-requests q d = ap (λ g. g q) cm.requests

    other-lines : (q : ℕ) → q ≢ p → override u.lines p y q ≡ s.lines q
    other-lines q d = override-other u.lines p y q d ∙ cm.lines q d

    pub cell-written : (c : Cell) → is_cell_of a c ≡ true
        → (is_cancelled_cell (s.cells t) ≡ true → is_cancelled_cell c ≡ true)
        → Shows (set_to m p x (write m.cells t (with_place a empty_seat)) m.figures) (goto p y (mark t c u))
    cell-written c i j =
        cell_row m s w p l x t a (goto p y (mark t c u)) cm.state cm.suspend_idx cm.resume_idx
        (subst (λ (d : Cell). is_cell_of a d ≡ true) (sym (override-same u.cells t c)) i)
        (λ v d. override-other u.cells t c v d ∙ ap (λ g. g v) cm.cells)
        (λ z. subst (λ (d : Cell). is_cancelled_cell d ≡ true) (sym (override-same u.cells t c)) (j z))
        (override-same u.lines p y ∙ e) other-lines fits same-requests

    pub cell-kept : is_cell_of a (s.cells t) ≡ true
        → Shows (set_to m p x (write m.cells t (with_place a empty_seat)) m.figures) (goto p y u)
    cell-kept i =
        cell_row m s w p l x t a (goto p y u) cm.state cm.suspend_idx cm.resume_idx
        (subst (λ g. is_cell_of a (g t) ≡ true) (sym cm.cells) i)
        (λ v d. ap (λ g. g v) cm.cells)
        (λ z. subst (λ g. is_cancelled_cell (g t) ≡ true) (sym cm.cells) z)
        (override-same u.lines p y ∙ e) other-lines fits same-requests
