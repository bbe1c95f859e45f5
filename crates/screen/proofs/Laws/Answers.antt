-- Each answer of an operation, by the tests that lead to it.
use Prim.Native.Nat.{ℕ, suc, ◌≤◌, ◌<◌}
use mathlib.Core.Path.{◌≡◌, refl, sym, ap, ap₂, ◌∙◌}
use mathlib.Core.Bool.{Bool, true, false}
use mathlib.Core.List.{List, [], ◌∷◌, ◌++◌}
use native.Mathlib.Omega.{arith}
use borrow.Author.Tests.{eq-eqb, le-leb, leb-true, lt-leb, lt-ltb, le-ltb, ne_eqb}
use lib.Dec.{leb}
use lib.ListN.{length, get_or, set, take, drop}
use Rattle.hub.specs.declared.answers.Refusal.{Refusal}
use Rattle.hub.specs.Basics.{among}
use Rattle.hub.specs.Kinds.{kind_in}
use Rattle.hub.proofs.Laws.Bools.{first, second}
use Rattle.screen.specs.declared.record.Line.{Line}
use Rattle.screen.specs.declared.record.Operation.{Operation}
use Rattle.screen.specs.Fits.{holder_count, line_fits}
use Rattle.screen.specs.Line.{holders, holds_in, place_of, waiters, waits_in, with_holding, with_waiters}
use Rattle.screen.specs.Moves.{accepted_move, acquire, cancel, checked_move, has_permit, has_waiter, line_move}
use Rattle.screen.specs.Moves.{next_waiter, own_move, refused_move, release, without}
use Rattle.screen.proofs.Laws.Fit.{Fit, room, waits-cons}
use Rattle.screen.proofs.Laws.Holders.{held-weight}
use Rattle.screen.proofs.Laws.Lists.{among-here}
use Rattle.screen.proofs.Laws.Moves.{waiters-length}
use Rattle.screen.proofs.Laws.Places.{place-among, place-left}

module _ (l : Line) (p : ℕ) where
  -- 1 and 4.
  pub unfit : (o : Operation) → line_fits l ≡ false → line_move l o p ≡ refused_move Refusal.Unfit l
  unfolding line_move checked_move
  unfit o e = rw e

  pub no-party : (o : Operation) → line_fits l ≡ true → l.parties ≤ p
      → line_move l o p ≡ refused_move Refusal.NoSuchParty l
  unfolding line_move checked_move
  no-party o e h = rw (e, le-ltb p l.parties h)

  pub own : (o : Operation) → line_fits l ≡ true → p < l.parties → line_move l o p ≡ own_move l o p
  unfolding line_move checked_move
  own o e h = rw (e, lt-ltb p l.parties h)

  -- Ask.
  pub holds-already : get_or l.holding p false ≡ true → own_move l Operation.Acquire p ≡ refused_move Refusal.NotFree l
  unfolding own_move acquire holds_in
  holds-already e = rw e

  pub waits-already : get_or l.holding p false ≡ false → among (waiters l) p ≡ true
      → own_move l Operation.Acquire p ≡ refused_move Refusal.NotFree l
  unfolding own_move acquire holds_in waits_in
  waits-already e f = rw (e, f)

  pub acquires : get_or l.holding p false ≡ false → among (waiters l) p ≡ false → holder_count l < l.permits
      → own_move l Operation.Acquire p ≡ accepted_move (with_holding (set l.holding p true) l)
  unfolding own_move acquire holds_in waits_in has_permit
  acquires e f h = rw (e, f, lt-ltb (holder_count l) l.permits h)

  pub queues : get_or l.holding p false ≡ false → among (waiters l) p ≡ false → l.permits ≤ holder_count l
      → own_move l Operation.Acquire p ≡ accepted_move (with_waiters (waiters l ++ (p ∷ [])) l)
  unfolding own_move acquire holds_in waits_in has_permit
  queues e f h = rw (e, f, le-ltb (holder_count l) l.permits h)

  -- Give up.
  pub waits-not : among (waiters l) p ≡ false → own_move l Operation.Cancel p ≡ refused_move Refusal.NotWaiting l
  unfolding own_move cancel waits_in
  waits-not e = rw e

  pub may-not : among (waiters l) p ≡ true → kind_in l.kinds p ≡ 3
      → own_move l Operation.Cancel p ≡ refused_move Refusal.NotCancellable l
  unfolding own_move cancel waits_in
  may-not e k = ap₂ (λ (w t : Bool). cancel w t l p) e (eq-eqb (kind_in l.kinds p) 3 k)

  pub cancels : among (waiters l) p ≡ true → (kind_in l.kinds p ≡ 3 → ⊥)
      → own_move l Operation.Cancel p ≡ accepted_move (with_waiters (without p (waiters l)) l)
  unfolding own_move cancel waits_in
  cancels e k = ap₂ (λ (w t : Bool). cancel w t l p) e (ne_eqb (kind_in l.kinds p) 3 k)

  -- Give back.
  pub holds_not : get_or l.holding p false ≡ false → own_move l Operation.Release p ≡ refused_move Refusal.NotHolding l
  unfolding own_move release holds_in
  holds_not e = rw e

  pub returns : get_or l.holding p false ≡ true → l.waiting < 1
      → own_move l Operation.Release p ≡ accepted_move (with_holding (set l.holding p false) l)
  unfolding own_move release holds_in has_waiter
  returns e h = rw (e, lt-leb 1 l.waiting h)

  pub hands-over : get_or l.holding p false ≡ true → 1 ≤ l.waiting
      → own_move l Operation.Release p
      ≡ accepted_move
      (with_waiters (drop 1 (waiters l))
      (with_holding (set (set l.holding p false) (next_waiter l) true) l))
  unfolding own_move release holds_in has_waiter
  hands-over e h = rw (e, le-leb 1 l.waiting h)

-- Who has a place among those that wait.
module _ (l : Line) (f : Fit l) (size : length l.queue ≡ 32) (p i : ℕ) (e : i ≡ place_of p (waiters l)) where
  pub has-place : i < l.waiting → among (waiters l) p ≡ true
  has-place h =
      place-among (waiters l) p ∙ lt-ltb (place_of p (waiters l)) (length (waiters l)) (omega (arith, e, waiters-length l f size))

  pub leaves-place : with_waiters (take i (waiters l) ++ drop (suc i) (waiters l)) l
      ≡ with_waiters (without p (waiters l)) l
  leaves-place =
      ap (λ (w : List ℕ). with_waiters w l)
      (ap (λ (j : ℕ). take j (waiters l) ++ drop (suc j) (waiters l)) e ∙ sym (place-left (waiters l) p))

-- There is a byte for one more that waits: whoever asks is on the line nowhere, and somebody holds.
pub has_room_lem : (l : Line) (p : ℕ) → Fit l → length l.queue ≡ 32 → length l.holding ≡ 32
    → p < l.parties → get_or l.holding p false ≡ false → among (waiters l) p ≡ false → l.permits ≤ holder_count l
    → l.waiting < 32
unfolding holders
has_room_lem l p f size sizes h e a k =
    let n : l.parties ≤ 32 = leb-true _ _ (second (leb 1 l.parties) _ f.bounds.parties) in
    let m : 1 ≤ l.permits = leb-true _ _ (first _ (leb l.permits 32) f.bounds.permits) in
    let w = waits-cons l.holding l.parties (waiters l) p f.waits a h e in
    omega (
      arith,
      room l.holding l.parties (p ∷ waiters l) (omega arith) w,
      held-weight l.holding 0,
      waiters-length l f size,
    )

-- Parties on a line that fits are below 32, and the first that waits is one of them.
pub party-small : (l : Line) (p : ℕ) → Fit l → p < l.parties → p < 32
party-small l p f h =
    omega (arith, leb-true l.parties 32 (second (leb 1 l.parties) _ f.bounds.parties))

pub first-waits : (l : Line) → Fit l → length l.queue ≡ 32 → 1 ≤ l.waiting
    → among (waiters l) (next_waiter l) ≡ true
unfolding next_waiter
first-waits l f size h = go (waiters l) (omega (arith, waiters-length l f size))
  where
    go : (w : List ℕ) → 1 ≤ length w → among w (get_or w 0 0) ≡ true
    go [] k = absurd (omega arith)
    go (x ∷ w) k = among-here w x x refl

pub first_small : (l : Line) → Fit l → length l.queue ≡ 32 → 1 ≤ l.waiting → next_waiter l < 32
first_small l f size h = party-small l _ f (f.waits.below _ (first-waits l f size h))

-- The first of those that wait, in a list w of them.
module _ (l : Line) (f : Fit l) (size : length l.queue ≡ 32) (w : List ℕ) (e : w ≡ waiters l) where
  pub some-wait : 0 < length w → 1 ≤ l.waiting
  some-wait h = omega (arith, ap length e, waiters-length l f size)

  pub none-waits : length w ≡ 0 → l.waiting < 1
  none-waits h = omega (arith, ap length e, waiters-length l f size)

  pub the-next : (x : ℕ) → ((d : ℕ) → x ≡ get_or w 0 d) → x ≡ next_waiter l
  unfolding next_waiter
  the-next x h = h 0 ∙ ap (λ (v : List ℕ). get_or v 0 0) e

-- The line that a hand-over leaves, as the code makes it.
pub handed-over : (l m : Line) (p x : ℕ) → get_or l.holding p false ≡ true → 1 ≤ l.waiting → x ≡ next_waiter l
    → m ≡ with_waiters (drop 1 (waiters l)) (with_holding (set l.holding p false) l)
    → accepted_move (with_holding (set m.holding x true) m) ≡ own_move l Operation.Release p
handed-over l m p x e h f i =
    ap (λ (n : Line). accepted_move (with_holding (set n.holding x true) n)) i
    ∙ ap
    (λ (q : ℕ).
    accepted_move (with_waiters (drop 1 (waiters l)) (with_holding (set (set l.holding p false) q true) l)))
    f
    ∙ sym (hands-over l p e h)
