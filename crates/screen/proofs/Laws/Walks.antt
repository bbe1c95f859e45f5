-- The loop of the check: of those that wait, the ones passed are different, below n and do not hold; whoever holds or
-- is passed is met.
use Prim.Native.Nat.{ℕ, suc, ◌+◌, ◌≤◌, ◌<◌}
use mathlib.Core.Path.{◌≡◌, refl, sym, ap, subst, ◌∙◌}
use mathlib.Core.Bool.{Bool, true, false, ◌&&◌, ◌||◌}
use mathlib.Core.List.{List, [], ◌∷◌, ◌++◌}
use native.Mathlib.Decide.{ℕ_discrete}
use native.Mathlib.Numerals.{add-one}
use native.Mathlib.Omega.{arith}
use borrow.Author.Tests.{ne_eqb}
use lib.Dec.{eqb, ltb}
use lib.ListN.{length, get_or, set, take, drop, length-set}
use lib.Seq.{drop-cons, get_or-set_other, get_or-set_same, take_all, take-suc}
use Rattle.std.proofs.lemmas.List.{take-append-drop}
use Rattle.hub.specs.Basics.{all_pass, among}
use Rattle.hub.specs.Radios.{differ}
use Rattle.hub.proofs.Laws.Bools.{both, first, second}
use Rattle.screen.specs.declared.record.Line.{Line}
use Rattle.screen.specs.Fits.{everybody}
use Rattle.screen.specs.Line.{holders, waiters}
use Rattle.screen.proofs.Laws.Fit.{Waits, all-below, all-differ, waits-none, waits-of}
use Rattle.screen.proofs.Laws.Lists.{among_cases, among-either, among-back, among-here, differ-apart, differ-both, differ-cons, never, not_so}

pub record Walked (hs : List Bool) (n : ℕ) (w : List ℕ) (met : List Bool) (i : ℕ) : Type 0 where
  pub size : length met ≡ 32
  pub room : n ≤ 32
  pub seen : (p : ℕ) → get_or met p false ≡ (get_or hs p false || among (take i w) p)
  pub good : Waits hs n (take i w)

no-more : (b : Bool) → b ≡ (b || false)
no-more true = refl
no-more false = refl

or-true : (a b : Bool) → b ≡ true → (a || b) ≡ true
or-true true b e = refl
or-true false b e = e

first_off : (a b : Bool) → (a || b) ≡ false → a ≡ false
first_off true b e = e
first_off false b e = refl

second_off : (a b : Bool) → (a || b) ≡ false → b ≡ false
second_off true b e = absurd (never e)
second_off false b e = e

-- One more at the end.
among-pushed : (l : List ℕ) (x p : ℕ) → (p ≡ x → ⊥) → among (l ++ (x ∷ [])) p ≡ among l p
among-pushed [] x p h = rw (ne_eqb p x h)
among-pushed (y ∷ l) x p h = ap (λ (b : Bool). eqb p y || b) (among-pushed l x p h)

waits-push : (hs : List Bool) (n : ℕ) (w : List ℕ) (x : ℕ) → Waits hs n w → among w x ≡ false → x < n
    → get_or hs x false ≡ false → Waits hs n (w ++ (x ∷ []))
unfolding differ
waits-push hs n w x s a b e =
    record {
      distinct =
          differ-both w (x ∷ []) s.distinct (differ-cons [] x refl waits-none-differ)
          (λ y i. among_cases [] y x i (λ j. ap (among w) j ∙ a) (λ j. absurd (never (sym j))));
      below = λ y i. among-either w (x ∷ []) y i (s.below y)
          (λ j. among_cases [] y x j (λ f. subst (λ (z : ℕ). z < n) (sym f) b) (λ f. absurd (never (sym f))));
      apart = λ y i. among-either w (x ∷ []) y i (s.apart y)
          (λ j. among_cases [] y x j (λ f. ap (λ (z : ℕ). get_or hs z false) f ∙ e) (λ f. absurd (never (sym f))));
    }
  where
    waits-none-differ : differ [] ≡ true
    waits-none-differ = refl

pub walked_none : (hs : List Bool) (n : ℕ) (w : List ℕ) → length hs ≡ 32 → n ≤ 32 → Walked hs n w hs 0
walked_none hs n w s r =
    record { size = s; room = r; seen = λ p. no-more (get_or hs p false); good = waits-none hs n }

-- The i-th that waits.
module _ (w : List ℕ) (i : ℕ) (h : i < length w) where
  split : take i w ++ (get_or w i 0 ∷ drop (suc i) w) ≡ w
  split = ap (λ (l : List ℕ). take i w ++ l) (sym (drop-cons w i 0 h)) ∙ take-append-drop i w

  upto : take (i + 1) w ≡ take i w ++ (get_or w i 0 ∷ [])
  upto = rw (add-one, take-suc w i 0 h)

module _ (hs : List Bool) (n : ℕ) (w : List ℕ) (met : List Bool) (i : ℕ) (k : Walked hs n w met i) (h : i < length w) where
  abbrev x : ℕ
  x = get_or w i 0

  there : among w x ≡ true
  there =
      subst (λ (l : List ℕ). among l x ≡ true) (split w i h)
      (among-back (take i w) (x ∷ drop (suc i) w) x (among-here (drop (suc i) w) x x refl))

  -- One that is n or above, or that was met before: the line does not fit.
  pub too-high : n ≤ x → Waits hs n w → ⊥
  too-high e s = let z = s.below x there in omega arith

  apart : Waits hs n w → among (take i w) x ≡ false
  apart s =
      differ-apart (take i w) (x ∷ drop (suc i) w) (ap differ (split w i h) ∙ s.distinct) x
      (among-here (drop (suc i) w) x x refl)

  pub met-twice : get_or met x false ≡ true → Waits hs n w → ⊥
  met-twice v s =
      never (sym v ∙ k.seen x ∙ ap (λ (b : Bool). b || among (take i w) x) (s.apart x there) ∙ apart s)

  pub met-now : x < n → get_or met x false ≡ false → Walked hs n w (set met x true) (i + 1)
  met-now e v =
      record {
        size = length-set met x true ∙ k.size;
        room = k.room;
        seen = λ p. go p (ℕ_discrete p x);
        good =
            subst (Waits hs n) (sym (upto w i h))
            (waits-push hs n (take i w) x k.good (second_off _ _ unmet) e (first_off _ _ unmet));
      }
    where
      unmet : (get_or hs x false || among (take i w) x) ≡ false
      unmet = sym (k.seen x) ∙ v

      go : (p : ℕ) → Dec (p ≡ x) → get_or (set met x true) p false ≡ (get_or hs p false || among (take (i + 1) w) p)
      go p (yes f) =
          ap (λ (z : ℕ). get_or (set met x true) z false) f
          ∙ get_or-set_same met x true false (omega (arith, k.size, k.room))
          ∙ sym (or-true (get_or hs p false) _
          (ap (λ (l : List ℕ). among l p) (upto w i h) ∙ among-back (take i w) (x ∷ []) p (among-here [] p x f)))
      go p (no f) =
          get_or-set_other met x p true false f ∙ k.seen p
          ∙ ap (λ (b : Bool). get_or hs p false || b)
          (sym (ap (λ (l : List ℕ). among l p) (upto w i h) ∙ among-pushed (take i w) x p f))

pub walked_all : (hs : List Bool) (n : ℕ) (w : List ℕ) (met : List Bool) (i : ℕ) → Walked hs n w met i → length w ≤ i
    → Waits hs n w
walked_all hs n w met i k h = subst (Waits hs n) (take_all i w h) k.good

-- What the walk says of everybody on the line.
module _ (l : Line) where
  pub misfit : (Waits l.holding l.parties (waiters l) → ⊥)
      → false ≡ differ (everybody l) && all_pass (λ p. ltb p l.parties) (everybody l)
  misfit h = sym (not_so _ (λ e. h (waits-of l (first (differ (everybody l)) _ e) (second (differ (everybody l)) _ e))))

  pub all-met : all_pass (λ p. ltb p l.parties) (holders l) ≡ true → Waits l.holding l.parties (waiters l)
      → true ≡ differ (everybody l) && all_pass (λ p. ltb p l.parties) (everybody l)
  all-met a s = sym (both _ _ (all-differ l s) (all-below l a s))
