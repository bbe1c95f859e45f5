-- What the invariant counts: weights of a phase, of a cell and of the counter, and their sums.
use Prim.Native.Nat.{ℕ, zero, suc, ◌+◌, ◌-◌, ◌*◌, ◌≤◌, ◌<◌}
use mathlib.Core.Path.{◌≡◌, refl, sym, ap, subst, ◌∙◌}
use mathlib.Core.Bool.{Bool, true, false, cond, ◌&&◌, ◌||◌}
use mathlib.Core.List.{List, [], ◌∷◌, map}
use mathlib.Core.Logic.{◌≢◌, ◌⊎◌, inl, inr}
use native.Mathlib.Decide.{ℕ_discrete, dec_le}
use native.Mathlib.Nat.{le_refl}
use native.Mathlib.Omega.{arith}
use borrow.Author.Tests.{eqb-true}
use lib.Dec.{eqb}
use lib.IntN.{ℤ, pos, negsuc, suc_ℤ, pred_ℤ}
use Rattle.hub.specs.declared.record.Phase.{Phase}
use Rattle.hub.specs.declared.record.Phase.TheVariants.{Holding, Waiting, Acquiring}
use Rattle.hub.specs.declared.record.Phase.TheVariants.{Suspending, Ticketed, Aborting}
use Rattle.hub.specs.declared.record.Phase.TheVariants.{Cancelling, Refusing, Releasing}
use Rattle.hub.specs.declared.record.Phase.TheVariants.{Resuming, ResumingAt, Fetching}
use Rattle.hub.specs.declared.record.Phase.TheVariants.{AcquiringMarked, SuspendingMarked, TicketedMarked}
use Rattle.hub.specs.declared.record.Place.{Place}
use Rattle.hub.specs.declared.record.Place.TheVariants.{Empty, Waiting as WaitedBy, Permit}
use Rattle.hub.specs.declared.record.Place.TheVariants.{Cancelled, Refused, Done}
use Rattle.hub.specs.Basics.{among, bit, count, weight}
use Rattle.hub.specs.Phases.{RADIO_PHASES, by_waiter, is_one_of, is_waiting, rank, ticket_of}
use Rattle.hub.specs.Phases.{is_permit, is_cancelled, is_refused, is_done}
use Rattle.hub.specs.Queue.{Queue, phases, places}
use Rattle.hub.specs.Table.{above_zero, below_zero}
use Rattle.hub.proofs.Laws.Lists.{weight-same}
use Rattle.hub.proofs.Laws.Phases.{every-phase, every-place, ticketed}
use Rattle.hub.proofs.Laws.Ranges.{sum_from}

-- 1 where two numbers are the same; 1 where the first is below the second. Both by differences,
-- which omega reads.
unfoldable pub same : ℕ → ℕ → ℕ
same u t = 1 - ((u - t) + (t - u))

pub same_self : (t : ℕ) → same t t ≡ 1
unfolding same
same_self t = omega arith

pub same-other : (u t : ℕ) → u ≢ t → same u t ≡ 0
unfolding same
same-other u t d = omega arith

pub same-eq : (u t : ℕ) → 1 ≤ same u t → u ≡ t
unfolding same
same-eq u t l = omega arith

pub same-le : (u t : ℕ) → same u t ≤ 1
unfolding same
same-le u t = omega arith

unfoldable pub lt : ℕ → ℕ → ℕ
lt t n = (n - t) - (n - (t + 1))

pub lt_yes : (t n : ℕ) → t < n → lt t n ≡ 1
unfolding lt
lt_yes t n l = omega arith

pub lt_no : (t n : ℕ) → n ≤ t → lt t n ≡ 0
unfolding lt
lt_no t n l = omega arith

pub lt-le : (t n : ℕ) → lt t n ≤ 1
unfolding lt
lt-le t n = omega arith

pub lt-pos : (t n : ℕ) → 1 ≤ lt t n → t < n
unfolding lt
lt-pos t n l = omega arith

pub lt-suc : (t n : ℕ) → lt t (n + 1) ≡ lt t n + same n t
lt-suc t n = go (ℕ_discrete n t) (dec_le (suc t) n)
  where
    go : Dec (n ≡ t) → Dec (suc t ≤ n) → lt t (n + 1) ≡ lt t n + same n t
    go (yes z) d =
        omega (
          arith,
          subst (λ (u : ℕ). same n u ≡ 1) z (same_self n),
          lt_yes t (n + 1) (omega arith),
          lt_no t n (omega arith),
        )
    go (no y) (yes l) =
        omega (arith, same-other n t y, lt_yes t (n + 1) (omega arith), lt_yes t n l)
    go (no y) (no l) =
        omega (arith, same-other n t y, lt_no t (n + 1) (omega arith), lt_no t n (omega arith))

-- The counter above zero, below it, and 1 where it is not below.
abbrev pub up : ℤ → ℕ
up (pos n) = n
up (negsuc n) = 0

abbrev pub down : ℤ → ℕ
down (pos n) = 0
down (negsuc n) = suc n

abbrev pub calm : ℤ → ℕ
calm (pos n) = 1
calm (negsuc n) = 0

-- What taking one off does, by the test before it; and what adding one does.
pub took-above : (z : ℤ) → above_zero z ≡ true
    → (up z ≡ up (pred_ℤ z) + 1) × (down z ≡ 0) × (down (pred_ℤ z) ≡ 0) × (calm (pred_ℤ z) ≡ 1)
took-above (pos zero) e = let i : ◌≡◌ {A = ℕ} 0 1 = cc in omega arith
took-above (pos (suc n)) e = omega arith
took-above (negsuc n) e = let i : ◌≡◌ {A = ℕ} 0 1 = cc in omega arith

pub took-below : (z : ℤ) → above_zero z ≡ false
    → (up z ≡ 0) × (up (pred_ℤ z) ≡ 0) × (down (pred_ℤ z) ≡ down z + 1) × (calm (pred_ℤ z) ≡ 0)
took-below (pos zero) e = omega arith
took-below (pos (suc n)) e = let i : ◌≡◌ {A = ℕ} 0 1 = cc in omega arith
took-below (negsuc n) e = omega arith

pub gave-below : (z : ℤ) → below_zero z ≡ true
    → (up z ≡ 0) × (up (suc_ℤ z) ≡ 0) × (down z ≡ down (suc_ℤ z) + 1)
gave-below (pos n) e = let i : ◌≡◌ {A = ℕ} 0 1 = cc in omega arith
gave-below (negsuc zero) e = omega arith
gave-below (negsuc (suc n)) e = omega arith

pub gave-above : (z : ℤ) → below_zero z ≡ false
    → (up (suc_ℤ z) ≡ up z + 1) × (down z ≡ 0) × (down (suc_ℤ z) ≡ 0) × (calm (suc_ℤ z) ≡ 1)
gave-above (pos n) e = omega arith
gave-above (negsuc n) e = let i : ◌≡◌ {A = ℕ} 0 1 = cc in omega arith

pub calm-down : (c : ℤ) → 1 ≤ calm c → down c ≡ 0
calm-down (pos n) l = refl
calm-down (negsuc n) l = omega arith

pub calm-or : (c : ℤ) → (calm c ≡ 1) ⊎ (calm c ≡ 0)
calm-or (pos n) = inl refl
calm-or (negsuc n) = inr refl

-- g of the ticket for the phases of a list, 0 for all others.
unfoldable pub pick : List Phase → (ℕ → ℕ) → Phase → ℕ
pick l g f = cond (is_one_of l f) (g (ticket_of f)) 0

abbrev pub one : ℕ → ℕ
one t = 1

-- A phase that is in one list is in a longer one.
abbrev pub within : List Phase → List Phase → Bool
within [] l = true
within (x ∷ xs) l = among (map rank l) (rank x) && within xs l

pub in-longer : (xs l : List Phase) (r : ℕ) → within xs l ≡ true
    → among (map rank xs) r ≡ true → among (map rank l) r ≡ true
in-longer [] l r e i = cc
in-longer (x ∷ xs) l r e i =
    go (eqb r (rank x)) refl (among (map rank l) (rank x)) refl e i (in-longer xs l r)
  where
    go : (b : Bool) → eqb r (rank x) ≡ b → (d : Bool) → among (map rank l) (rank x) ≡ d
        → d && within xs l ≡ true → b || among (map rank xs) r ≡ true
        → (within xs l ≡ true → among (map rank xs) r ≡ true → among (map rank l) r ≡ true)
        → among (map rank l) r ≡ true
    go b z false y w v ih = cc
    go true z true y w v ih = ap (among (map rank l)) (eqb-true r (rank x) z) ∙ y
    go false z true y w v ih = ih w v

pub pick-le : (l l' : List Phase) (g g' : ℕ → ℕ) → within l l' ≡ true → ((u : ℕ) → g u ≤ g' u)
    → (f : Phase) → pick l g f ≤ pick l' g' f
unfolding pick is_one_of
pick-le l l' g g' e i f =
    go (among (map rank l) (rank f)) refl (among (map rank l') (rank f)) refl
  where
    go : (b : Bool) → among (map rank l) (rank f) ≡ b
        → (d : Bool) → among (map rank l') (rank f) ≡ d
        → cond b (g (ticket_of f)) 0 ≤ cond d (g' (ticket_of f)) 0
    go false z d y = omega arith
    go true z true y = i (ticket_of f)
    go true z false y = let w : true ≡ false = sym (in-longer l l' (rank f) e z) ∙ y in absurd (apart w)
      where
        apart : true ≡ false → ⊥
        apart w = let v : ◌≡◌ {A = ℕ} 0 1 = cc in omega arith

-- What a definition of specs/ counts is such a weight.
pub count-pick : (l : List Phase) (xs : List Phase)
    → count (is_one_of l) xs ≡ weight (pick l one) xs
unfolding pick
count-pick l xs = weight-same (λ f. bit (is_one_of l f)) (pick l one) (λ f. each (is_one_of l f)) xs
  where
    each : (b : Bool) → bit b ≡ cond b 1 0
    each true = refl
    each false = refl

-- Who holds, who brings a permit, who refuses one; who may draw a ticket, who will.
abbrev pub holding : Phase → ℕ
holding = pick (Holding ∷ Releasing ∷ Fetching ∷ []) one

abbrev pub resuming : Phase → ℕ
resuming = pick (Resuming ∷ ResumingAt 0 ∷ []) one

abbrev pub refusing : Phase → ℕ
refusing = pick (Refusing 0 ∷ []) one

abbrev pub drawing : Phase → ℕ
drawing = pick (Acquiring ∷ Suspending ∷ AcquiringMarked ∷ SuspendingMarked ∷ []) one

abbrev pub suspending : Phase → ℕ
suspending = pick (Suspending ∷ SuspendingMarked ∷ []) one

-- Live: with a ticket, and the counter has not been told that it gave up.
abbrev pub live : Phase → ℕ
live = pick (Ticketed 0 ∷ TicketedMarked 0 ∷ Waiting 0 ∷ Aborting 0 ∷ []) one

-- Handing: with a ticket to resume; carrying: without. About to have its own ticket skipped.
abbrev pub handing : Phase → ℕ
handing = pick (ResumingAt 0 ∷ []) one

abbrev pub carrying : Phase → ℕ
carrying = pick (Resuming ∷ []) one

abbrev pub cancelling : Phase → ℕ
cancelling = pick (Cancelling 0 ∷ []) one

-- Who is about to fetch a radio, or to put one back.
abbrev pub radioed : Phase → ℕ
radioed = pick RADIO_PHASES one

-- Of ticket t: its owner, its hand, who stands at its place, who refuses it.
abbrev pub own : ℕ → Phase → ℕ
own t =
    pick (Ticketed 0 ∷ TicketedMarked 0 ∷ Waiting 0 ∷ Aborting 0 ∷ Cancelling 0 ∷ Refusing 0 ∷ []) (λ u. same u t)

abbrev pub hand : ℕ → Phase → ℕ
hand t = pick (ResumingAt 0 ∷ []) (λ u. same u t)

abbrev pub stand : ℕ → Phase → ℕ
stand t = pick (Waiting 0 ∷ Aborting 0 ∷ Cancelling 0 ∷ Refusing 0 ∷ []) (λ u. same u t)

abbrev pub refuse : ℕ → Phase → ℕ
refuse t = pick (Refusing 0 ∷ []) (λ u. same u t)

-- How far the owner of t is: 1 with a ticket, 3 waiting, 2 once it gave up.
abbrev pub stage : ℕ → Phase → ℕ
stage t f =
    pick (Ticketed 0 ∷ TicketedMarked 0 ∷ []) (λ u. same u t) f
    + pick (Aborting 0 ∷ Cancelling 0 ∷ Refusing 0 ∷ []) (λ u. 2 * same u t) f
    + pick (Waiting 0 ∷ []) (λ u. 3 * same u t) f

-- Live, with a ticket above t.
abbrev pub above : ℕ → Phase → ℕ
above t = pick (Ticketed 0 ∷ TicketedMarked 0 ∷ Waiting 0 ∷ Aborting 0 ∷ []) (lt t)

-- Cells: with a permit, cancelled, refused; without an owner any more; after its hand-over;
-- the least and the most stage of its owner.
abbrev pub permit_cell : Place → ℕ
permit_cell a = bit (is_permit a)

abbrev pub cancelled_cell : Place → ℕ
cancelled_cell a = bit (is_cancelled a)

abbrev pub refused_cell : Place → ℕ
refused_cell a = bit (is_refused a)

abbrev pub spent : Place → ℕ
spent a = bit (is_cancelled a) + bit (is_refused a) + bit (is_done a)

abbrev pub served : Place → ℕ
served a = bit (is_permit a) + bit (is_done a)

abbrev pub least : Place → ℕ
least = by_waiter 0 (λ q. 2)

abbrev pub most : Place → ℕ
most = elim [ Empty ↦ 1 | WaitedBy q ↦ 3 | Permit ↦ 2 | Cancelled ↦ 0 | Refused ↦ 0 | Done ↦ 0 ]

-- The sum over the cells of all tickets there can be. The sums of a queue.
abbrev pub TICKETS : ℕ
TICKETS = 2000000

abbrev pub total : (Place → ℕ) → (ℕ → Place) → ℕ
total w g = sum_from (λ t. w (g t)) 0 TICKETS

abbrev pub sum : (Phase → ℕ) → Queue → ℕ
sum w m = weight w (phases m)

abbrev pub cell_sum : (Place → ℕ) → Queue → ℕ
cell_sum w m = total w (places m)

-- Facts of every phase.
pub pick-one : (l : List Phase) (g : ℕ → ℕ) → ((u : ℕ) → g u ≤ 1) → (f : Phase) → pick l g f ≤ 1
unfolding pick
pick-one l g i f = go (is_one_of l f)
  where
    go : (b : Bool) → cond b (g (ticket_of f)) 0 ≤ 1
    go true = i (ticket_of f)
    go false = omega arith

pub stand-own : (t : ℕ) (f : Phase) → stand t f ≤ own t f
stand-own t = pick-le _ _ _ _ refl (λ u. le_refl (same u t))

pub stand-le : (t : ℕ) (f : Phase) → stand t f ≤ 1
stand-le t = pick-one _ _ (λ u. same-le u t)

pub refuse-own : (t : ℕ) (f : Phase) → refuse t f ≤ own t f
refuse-own t = pick-le _ _ _ _ refl (λ u. le_refl (same u t))

pub suspending-drawing : (f : Phase) → suspending f ≤ drawing f
suspending-drawing = pick-le _ _ _ _ refl (λ u. le_refl 1)

pub handing-resuming : (f : Phase) → handing f ≤ resuming f
handing-resuming = pick-le _ _ _ _ refl (λ u. le_refl 1)

pub carrying-resuming : (f : Phase) → carrying f + handing f ≤ resuming f
unfolding pick is_one_of
carrying-resuming = every-phase (λ f. carrying f + handing f ≤ resuming f) (λ t. omega arith)

pub above-live : (t : ℕ) (f : Phase) → above t f ≤ live f
above-live t = pick-le _ _ _ _ refl (λ u. lt-le t u)

pub stage-own : (t : ℕ) (f : Phase) → stage t f ≤ 3 * own t f
unfolding pick is_one_of
stage-own t = every-phase (λ f. stage t f ≤ 3 * own t f) (λ u. omega arith)

-- Whoever has a ticket owns it or hands it.
pub has-ticket : (f : Phase) → own (ticket_of f) f + hand (ticket_of f) f ≡ bit (ticketed f)
unfolding pick is_one_of
has-ticket =
    every-phase (λ f. own (ticket_of f) f + hand (ticket_of f) f ≡ bit (ticketed f))
    (λ t. omega (arith, same_self t))

-- Whoever has given up is at stage 2.
pub stage-waiting : (t : ℕ) (f : Phase) → stage t f ≤ 2 + bit (is_waiting f)
unfolding pick is_one_of
stage-waiting t =
    every-phase (λ f. stage t f ≤ 2 + bit (is_waiting f)) (λ u. omega (arith, same-le u t))

-- And of every cell.
pub refused-spent : (a : Place) → refused_cell a ≤ spent a
refused-spent a = omega arith

pub least-le : (a : Place) → least a ≤ 2
least-le = every-place (λ a. least a ≤ 2) (λ q. omega arith)
