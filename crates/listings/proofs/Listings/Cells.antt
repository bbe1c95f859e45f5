-- The listings' cells and requests: read after a write, and what a test says.
use Prim.Native.Nat.{ℕ}
use mathlib.Core.Path.{◌≡◌, refl, sym, ap, ◌∙◌}
use mathlib.Core.Bool.{true, false, not}
use mathlib.Core.List.{[], ◌∷◌}
use mathlib.Core.Logic.{◌≢◌}
use borrow.Author.Tests.{eqb-true, eq-eqb, ne_eqb}
use lib.Dec.{eqb}
use lib.ListN.{get_or}
use Rattle.listings.specs.Listings.Machine.{Cell, Request, cell_rank, is_null, is_parked_at, is_thread_of, override}
use Rattle.listings.specs.Listings.Shown.{is_aborted, is_cancelled_cell, is_fresh, is_parked, is_refuse, is_value}
use Rattle.hub.proofs.Laws.Bools.{if-true, if-false, never}

pub override-same : {A : Type 0} (g : ℕ → A) (i : ℕ) (a : A) → override g i a i ≡ a
unfolding override
override-same g i a = if-true (eqb i i) a (g i) (eq-eqb i i refl)

pub override-other : {A : Type 0} (g : ℕ → A) (i : ℕ) (a : A) (j : ℕ) → j ≢ i → override g i a j ≡ g j
unfolding override
override-other g i a j d = if-false (eqb j i) a (g j) (ne_eqb j i d)

-- A cell is made of its rank, and of its thread.
cell-of : ℕ → ℕ → Cell
cell-of r q =
    get_or
    (Cell.Null ∷ Cell.Thread q ∷ Cell.Value ∷ Cell.Taken ∷ Cell.Resumed ∷ Cell.Cancelled ∷ Cell.Refuse ∷ [])
    r Cell.Null

abbrev thread-in : Cell → ℕ
thread-in =
    elim [
      | Cell.Null ↦ 0
      | Cell.Thread q ↦ q
      | Cell.Value ↦ 0
      | Cell.Taken ↦ 0
      | Cell.Resumed ↦ 0
      | Cell.Cancelled ↦ 0
      | Cell.Refuse ↦ 0
    ]

cell-back : (c : Cell) → c ≡ cell-of (cell_rank c) (thread-in c)
unfolding cell-of
cell-back Cell.Null = refl
cell-back (Cell.Thread q) = refl
cell-back Cell.Value = refl
cell-back Cell.Taken = refl
cell-back Cell.Resumed = refl
cell-back Cell.Cancelled = refl
cell-back Cell.Refuse = refl

of-rank : (r : ℕ) (c : Cell) → eqb (cell_rank c) r ≡ true → c ≡ cell-of r (thread-in c)
of-rank r c e = cell-back c ∙ ap (λ (n : ℕ). cell-of n (thread-in c)) (eqb-true (cell_rank c) r e)

pub null-cell : (c : Cell) → is_null c ≡ true → c ≡ Cell.Null
unfolding cell-of
null-cell = of-rank 0

pub value_cell : (c : Cell) → is_value c ≡ true → c ≡ Cell.Value
unfolding cell-of
value_cell = of-rank 2

pub cancelled-cell : (c : Cell) → is_cancelled_cell c ≡ true → c ≡ Cell.Cancelled
unfolding cell-of
cancelled-cell = of-rank 5

pub refuse-cell : (c : Cell) → is_refuse c ≡ true → c ≡ Cell.Refuse
unfolding cell-of
refuse-cell = of-rank 6

pub thread-cell : (q : ℕ) (c : Cell) → is_thread_of q c ≡ true → c ≡ Cell.Thread q
thread-cell q Cell.Null e = never (sym e)
thread-cell q (Cell.Thread r) e = ap Cell.Thread (eqb-true r q e)
thread-cell q Cell.Value e = never (sym e)
thread-cell q Cell.Taken e = never (sym e)
thread-cell q Cell.Resumed e = never (sym e)
thread-cell q Cell.Cancelled e = never (sym e)
thread-cell q Cell.Refuse e = never (sym e)

-- Requests.
pub fresh-request : (g : Request) → is_fresh g ≡ true → g ≡ Request.Fresh
fresh-request Request.Fresh e = refl
fresh-request (Request.Parked j) e = never (sym e)
fresh-request Request.Unparked e = never (sym e)
fresh-request Request.Aborted e = never (sym e)

pub aborted-request : (g : Request) → is_aborted g ≡ true → g ≡ Request.Aborted
aborted-request Request.Fresh e = never (sym e)
aborted-request (Request.Parked j) e = never (sym e)
aborted-request Request.Unparked e = never (sym e)
aborted-request Request.Aborted e = refl

pub parked-request : (t : ℕ) (g : Request) → is_parked_at t g ≡ true → g ≡ Request.Parked t
parked-request t Request.Fresh e = never (sym e)
parked-request t (Request.Parked j) e = ap Request.Parked (eqb-true j t e)
parked-request t Request.Unparked e = never (sym e)
parked-request t Request.Aborted e = never (sym e)

-- A request that is in no cell is in no cell t.
pub not-parked : (t : ℕ) (g : Request) → not (is_parked g) ≡ true → is_parked_at t g ≡ false
not-parked t Request.Fresh e = refl
not-parked t (Request.Parked j) e = never (sym e)
not-parked t Request.Unparked e = refl
not-parked t Request.Aborted e = refl

pub fresh-apart : (g : Request) → is_fresh g ≡ true → not (is_parked g) ≡ true
fresh-apart g e = rw (fresh-request g e)

pub aborted-apart : (g : Request) → is_aborted g ≡ true → not (is_parked g) ≡ true
aborted-apart g e = rw (aborted-request g e)
