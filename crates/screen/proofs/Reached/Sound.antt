-- A line told by its holders and by those that wait; every move leads from one that fits to one that fits.
use Prim.Native.Nat.{ℕ, suc, ◌≤◌, ◌<◌}
use mathlib.Core.Path.{◌≡◌, refl, sym, ap, subst, ◌∙◌}
use mathlib.Core.Bool.{Bool, true, false, cond}
use mathlib.Core.List.{List, [], ◌∷◌, ◌++◌}
use native.Mathlib.Decide.{ℕ_discrete, dec_le}
use native.Mathlib.Omega.{arith}
use borrow.Author.Tests.{leb-true}
use lib.Dec.{eqb, leb}
use lib.ListN.{length, get_or, set, replicate, length-append, length-set, get_or-eq_default}
use lib.Seq.{get_or-set_other, get_or-set_same, take_at, take-take}
use Rattle.hub.specs.Basics.{among, bit, weight}
use Rattle.hub.specs.Radios.{differ, padded}
use Rattle.hub.proofs.Laws.Bools.{second}
use Rattle.hub.proofs.Laws.Lists.{weight-set}
use Rattle.hub.proofs.Laws.Radios.{padded-length}
use Rattle.screen.specs.declared.record.Line.{Line}
use Rattle.screen.specs.Fits.{holder_count}
use Rattle.screen.specs.Line.{holders, waiters, with_holding, with_waiters}
use Rattle.screen.specs.Moves.{without}
use Rattle.screen.proofs.Laws.Fit.{Bounds, Fit, Waits}
use Rattle.screen.proofs.Laws.Holders.{held-weight}
use Rattle.screen.proofs.Laws.Lists.{among_cases, among-either, among-here, among_later, differ-both}
use Rattle.screen.proofs.Laws.Lists.{differ-cons, differ-head, differ-tail, never, not_so}
use Rattle.screen.proofs.Laws.Moves.{waiters-length}
use Rattle.screen.proofs.Laws.Places.{padded-at, untouched}

-- A line that fits, with arrays of 32.
pub record Sound (l : Line) : Type 0 where
  pub fit : Fit l
  pub holding : length l.holding ≡ 32
  pub queue : length l.queue ≡ 32

pub holder-count-is : (l : Line) → holder_count l ≡ weight bit l.holding
unfolding holders
holder-count-is l = held-weight l.holding 0

-- The line of l's opening where these hold and those wait.
abbrev pub line_of : Line → List Bool → List ℕ → Line
line_of l hs w = with_waiters w (with_holding hs l)

pub waiters-of : (l : Line) (hs : List Bool) (w : List ℕ) → length w ≤ 32 → waiters (line_of l hs w) ≡ w
unfolding waiters padded
waiters-of l hs w h =
    take-take (length w) 32 (w ++ replicate 32 0) h ∙ take_at w (replicate 32 0) (length w) refl

-- What such a line needs to fit.
pub record Good (l : Line) (hs : List Bool) (w : List ℕ) : Type 0 where
  pub bounds : Bounds l.permits l.parties l.kinds
  pub size : length hs ≡ 32
  pub short : length w ≤ 32
  pub below : (p : ℕ) → get_or hs p false ≡ true → p < l.parties
  pub waits : Waits hs l.parties w
  pub few : weight bit hs ≤ l.permits
  pub full : 1 ≤ length w → weight bit hs ≡ l.permits

pub good-fits : (l : Line) (hs : List Bool) (w : List ℕ) → Good l hs w → Sound (line_of l hs w)
good-fits l hs w g =
    record {
      fit =
          record {
            bounds = g.bounds;
            short = g.short;
            below = g.below;
            waits = subst (Waits hs l.parties) (sym (waiters-of l hs w g.short)) g.waits;
            few = omega (arith, holder-count-is (line_of l hs w), g.few);
            full = λ h. holder-count-is (line_of l hs w) ∙ g.full h;
            rest = λ i h. go i h (dec_le (suc i) 32);
          };
      holding = g.size;
      queue = padded-length w;
    }
  where
    go : (i : ℕ) → length w ≤ i → Dec (i < 32) → get_or (padded w) i 0 ≡ 0
    go i h (yes j) = padded-at w i j ∙ get_or-eq_default w 0 {n = i} h
    go i h (no j) = get_or-eq_default (padded w) 0 {n = i} (omega (arith, padded-length w))

-- Every line that fits is such a line.
module _ (l : Line) (s : Sound l) where
  pub waiting-is : length (waiters l) ≡ l.waiting
  waiting-is = waiters-length l s.fit s.queue

  pub good : Good l l.holding (waiters l)
  good =
      record {
        bounds = s.fit.bounds;
        size = s.holding;
        short = omega (arith, waiting-is, s.fit.short);
        below = s.fit.below;
        waits = s.fit.waits;
        few = omega (arith, holder-count-is l, s.fit.few);
        full = λ h. sym (holder-count-is l) ∙ s.fit.full (omega (arith, waiting-is));
      }

  pub queue-is : l.queue ≡ padded (waiters l)
  unfolding waiters
  queue-is = untouched l.queue l.waiting s.queue s.fit.short s.fit.rest

  pub same_line : (hs : List Bool) → with_holding hs l ≡ line_of l hs (waiters l)
  same_line hs = rw (← queue-is, waiting-is)

-- One more holds, or one less.
module _ (hs : List Bool) (p : ℕ) (i : p < length hs) where
  pub holds_more : get_or hs p false ≡ false → weight bit (set hs p true) ≡ suc (weight bit hs)
  holds_more e =
      let z : bit (get_or hs p false) ≡ 0 = ap bit e in
      omega (arith, weight-set bit hs p true false i)

  pub holds-less : get_or hs p false ≡ true → suc (weight bit (set hs p false)) ≡ weight bit hs
  holds-less e =
      let z : bit (get_or hs p false) ≡ 1 = ap bit e in
      omega (arith, weight-set bit hs p false false i)

  pub still-free : (q : ℕ) → get_or hs q false ≡ false → get_or (set hs p false) q false ≡ false
  still-free q e = go (ℕ_discrete q p)
    where
      go : Dec (q ≡ p) → get_or (set hs p false) q false ≡ false
      go (yes d) =
          ap (λ (x : ℕ). get_or (set hs p false) x false) d ∙ get_or-set_same hs p false false i
      go (no d) = get_or-set_other hs p q false false d ∙ e

  pub held-before : (q : ℕ) → get_or (set hs p false) q false ≡ true → get_or hs q false ≡ true
  held-before q e = go (ℕ_discrete q p)
    where
      go : Dec (q ≡ p) → get_or hs q false ≡ true
      go (yes d) =
          absurd (never (sym e ∙ ap (λ (x : ℕ). get_or (set hs p false) x false) d ∙ get_or-set_same hs p false false i))
      go (no d) = sym (get_or-set_other hs p q false false d) ∙ e

  pub held-or-new : {C : Type 0} (q : ℕ) → get_or (set hs p true) q false ≡ true → (q ≡ p → C)
      → (get_or hs q false ≡ true → C) → C
  held-or-new {C} q e f g = go (ℕ_discrete q p)
    where
      go : Dec (q ≡ p) → C
      go (yes d) = f d
      go (no d) = g (sym (get_or-set_other hs p q true false d) ∙ e)

-- Those that wait, with one more, and without one.
pub waits_end : (hs : List Bool) (n : ℕ) (w : List ℕ) (x : ℕ) → Waits hs n w → among w x ≡ false → x < n
    → get_or hs x false ≡ false → Waits hs n (w ++ (x ∷ []))
unfolding differ
waits_end hs n w x s a b e =
    record {
      distinct =
          differ-both w (x ∷ []) s.distinct refl
          (λ y i. among_cases [] y x i (λ d. ap (among w) d ∙ a) (λ j. absurd (never (sym j))));
      below = λ y i.
          among-either w (x ∷ []) y i (s.below y)
          (λ j. among_cases [] y x j (λ d. subst (λ (z : ℕ). z < n) (sym d) b) (λ k. absurd (never (sym k))));
      apart = λ y i.
          among-either w (x ∷ []) y i (s.apart y)
          (λ j.
          among_cases [] y x j (λ d. ap (λ (z : ℕ). get_or hs z false) d ∙ e) (λ k. absurd (never (sym k))));
    }

among-without : (w : List ℕ) (x y : ℕ) → among (without x w) y ≡ true → among w y ≡ true
unfolding without
among-without [] x y e = e
among-without (z ∷ w) x y e = go (eqb x z) e (among-without w x y)
  where
    go : (b : Bool) → among (cond b w (z ∷ without x w)) y ≡ true
        → (among (without x w) y ≡ true → among w y ≡ true) → among (z ∷ w) y ≡ true
    go true i ih = among_later w y z i
    go false i ih = among_cases (without x w) y z i (among-here w y z) (λ j. among_later w y z (ih j))

differ-without : (w : List ℕ) (x : ℕ) → differ w ≡ true → differ (without x w) ≡ true
unfolding without
differ-without [] x e = e
differ-without (z ∷ w) x e = go (eqb x z) (differ-without w x (differ-tail w z e))
  where
    go : (b : Bool) → differ (without x w) ≡ true → differ (cond b w (z ∷ without x w)) ≡ true
    go true i = differ-tail w z e
    go false i =
        differ-cons (without x w) z
        (not_so _ (λ j. never (sym (among-without w x z j) ∙ differ-head w z e))) i

pub without-short : (w : List ℕ) (x : ℕ) → length (without x w) ≤ length w
unfolding without
without-short [] x = omega arith
without-short (z ∷ w) x = go (eqb x z) (without-short w x)
  where
    go : (b : Bool) → length (without x w) ≤ length w
        → length (cond b w (z ∷ without x w)) ≤ length (z ∷ w)
    go true i = omega arith
    go false i = omega arith

waits-without : (hs : List Bool) (n : ℕ) (w : List ℕ) (x : ℕ) → Waits hs n w → Waits hs n (without x w)
waits-without hs n w x s =
    record {
      distinct = differ-without w x s.distinct;
      below = λ y i. s.below y (among-without w x y i);
      apart = λ y i. s.apart y (among-without w x y i);
    }

-- Each move, on holders hs and waiters w.
module _ (l : Line) (hs : List Bool) (w : List ℕ) (p : ℕ) (g : Good l hs w) (i : p < length hs) where
  pub good-holder : p < l.parties → get_or hs p false ≡ false → among w p ≡ false → weight bit hs < l.permits
      → Good l (set hs p true) w
  good-holder h e a k =
      record {
        bounds = g.bounds;
        size = length-set hs p true ∙ g.size;
        short = g.short;
        below = λ q j. held-or-new hs p i q j (λ d. subst (λ (x : ℕ). x < l.parties) (sym d) h) (g.below q);
        waits =
            record {
              distinct = g.waits.distinct;
              below = g.waits.below;
              apart = λ x j.
                  get_or-set_other hs p x true false (λ d. never (sym j ∙ ap (among w) d ∙ a)) ∙ g.waits.apart x j;
            };
        few = omega (arith, holds_more hs p i e);
        full = λ j. absurd (omega (arith, g.full j));
      }

  pub good-returned : get_or hs p false ≡ true → length w < 1 → Good l (set hs p false) w
  good-returned e h =
      record {
        bounds = g.bounds;
        size = length-set hs p false ∙ g.size;
        short = g.short;
        below = λ q j. g.below q (held-before hs p i q j);
        waits =
            record {
              distinct = g.waits.distinct;
              below = g.waits.below;
              apart = λ x j. still-free hs p i x (g.waits.apart x j);
            };
        few = omega (arith, holds-less hs p i e, g.few);
        full = λ j. absurd (omega arith);
      }

  pub good-without : Good l hs (without p w)
  good-without =
      record {
        bounds = g.bounds;
        size = g.size;
        short = omega (arith, without-short w p, g.short);
        below = g.below;
        waits = waits-without hs l.parties w p g.waits;
        few = g.few;
        full = λ j. g.full (omega (arith, without-short w p));
      }

  pub good-queued : p < l.parties → get_or hs p false ≡ false → among w p ≡ false → weight bit hs ≡ l.permits
      → length w < 32 → Good l hs (w ++ (p ∷ []))
  good-queued h e a k r =
      record {
        bounds = g.bounds;
        size = g.size;
        short = omega (arith, length-append w (p ∷ []));
        below = g.below;
        waits = waits_end hs l.parties w p g.waits a h e;
        few = g.few;
        full = λ j. k;
      }

pub good-handed : (l : Line) (hs : List Bool) (w : List ℕ) (p q : ℕ) → Good l hs (q ∷ w) → p < length hs
    → get_or hs p false ≡ true → Good l (set (set hs p false) q true) w
good-handed l hs w p q g i e =
    record {
      bounds = g.bounds;
      size = length-set (set hs p false) q true ∙ length-set hs p false ∙ g.size;
      short = omega (arith, g.short);
      below = λ x j.
          held-or-new (set hs p false) q in-range x j
          (λ d. subst (λ (z : ℕ). z < l.parties) (sym d) (g.waits.below q (among-here w q q refl)))
          (λ k. g.below x (held-before hs p i x k));
      waits =
          record {
            distinct = differ-tail w q g.waits.distinct;
            below = λ x j. g.waits.below x (among_later w x q j);
            apart = λ x j.
                get_or-set_other (set hs p false) q x true false
                (λ d. never (sym j ∙ ap (among w) d ∙ differ-head w q g.waits.distinct))
                ∙ still-free hs p i x (g.waits.apart x (among_later w x q j));
          };
      few = omega (arith, same, g.few);
      full = λ j. same ∙ g.full (omega arith);
    }
  where
    small : q < length hs
    small =
        omega (
          arith,
          g.waits.below q (among-here w q q refl),
          g.size,
          leb-true l.parties 32 (second (leb 1 l.parties) _ g.bounds.parties),
        )

    in-range : q < length (set hs p false)
    in-range = omega (arith, length-set hs p false, small)

    free : get_or (set hs p false) q false ≡ false
    free = still-free hs p i q (g.waits.apart q (among-here w q q refl))

    same : weight bit (set (set hs p false) q true) ≡ weight bit hs
    same = holds_more (set hs p false) q in-range free ∙ holds-less hs p i e
