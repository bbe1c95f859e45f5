-- A line that fits, as facts.
use Prim.Native.Nat.{ℕ, ◌+◌, ◌-◌, ◌≤◌, ◌<◌}
use mathlib.Core.Path.{◌≡◌, refl, sym, ap, subst, ◌∙◌}
use mathlib.Core.Bool.{Bool, true, false}
use mathlib.Core.List.{List, [], ◌∷◌}
use native.Mathlib.Decide.{ℕ_discrete}
use native.Mathlib.Omega.{arith}
use borrow.Author.Tests.{leb-true, le-leb, ltb-true, lt-ltb, eqb-true, eq-eqb}
use lib.Dec.{eqb, ltb}
use lib.ListN.{length, get_or, set, drop, length-set}
use lib.Seq.{get_or-drop, get_or-set_same, get_or-set_other}
use Rattle.hub.specs.Basics.{all_pass, among, bit, implies, up_to32, weight}
use Rattle.hub.specs.Kinds.{has_desk, kinds_known}
use Rattle.hub.specs.Radios.{differ}
use Rattle.hub.specs.Record.{PARTIES}
use Rattle.hub.proofs.Laws.Bools.{clause, none, passed}
use Rattle.hub.proofs.Laws.Lists.{weight-length, weight-set}
use Rattle.screen.specs.declared.record.Line.{Line}
use Rattle.screen.specs.Fits.{everybody, holder_count, line_clauses, line_fits}
use Rattle.screen.specs.Line.{holders, waiters}
use Rattle.screen.proofs.Laws.Holders.{holders-differ, holds-there}
use Rattle.screen.proofs.Laws.Lists.{all-zero, among-back, among_cases, among-drop, among-either, among-front}
use Rattle.screen.proofs.Laws.Lists.{among-here, among_later, differ-apart, differ-both, differ-cons, differ-drop}
use Rattle.screen.proofs.Laws.Lists.{differ-head, differ-second, each-passes, never, not_so}
use Rattle.screen.proofs.Laws.Lists.{pass-each, zeros}

-- Those that wait: all different, below n, and none of them holds.
pub record Waits (hs : List Bool) (n : ℕ) (w : List ℕ) : Type 0 where
  pub distinct : differ w ≡ true
  pub below : (x : ℕ) → among w x ≡ true → x < n
  pub apart : (x : ℕ) → among w x ≡ true → get_or hs x false ≡ false

module _ (hs : List Bool) (n : ℕ) where
  pub waits-none : Waits hs n []
  unfolding differ
  waits-none =
      record {
        distinct = refl;
        below = λ x e. absurd (never (sym e));
        apart = λ x e. absurd (never (sym e));
      }

  pub waits-cons : (w : List ℕ) (x : ℕ) → Waits hs n w → among w x ≡ false → x < n → get_or hs x false ≡ false
      → Waits hs n (x ∷ w)
  waits-cons w x s a b e =
      record {
        distinct = differ-cons w x a s.distinct;
        below = λ y i. among_cases w y x i (λ j. subst (λ (z : ℕ). z < n) (sym j) b) (s.below y);
        apart = λ y i. among_cases w y x i (λ j. ap (λ (z : ℕ). get_or hs z false) j ∙ e) (s.apart y);
      }

  pub waits-drop : (w : List ℕ) (i : ℕ) → Waits hs n w → Waits hs n (drop i w)
  waits-drop w i s =
      record {
        distinct = differ-drop w i s.distinct;
        below = λ x e. s.below x (among-drop w i x e);
        apart = λ x e. s.apart x (among-drop w i x e);
      }

-- Whoever holds or waits, marked.
unfoldable pub marks : List Bool → List ℕ → List Bool
marks hs [] = hs
marks hs (x ∷ w) = set (marks hs w) x true

pub marks-length : (hs : List Bool) (w : List ℕ) → length (marks hs w) ≡ length hs
unfolding marks
marks-length hs [] = refl
marks-length hs (x ∷ w) = length-set (marks hs w) x true ∙ marks-length hs w

pub unmarked : (hs : List Bool) (w : List ℕ) (x : ℕ) → x < length hs → get_or hs x false ≡ false → among w x ≡ false
    → get_or (marks hs w) x false ≡ false
unfolding marks
unmarked hs [] x h e a = e
unmarked hs (y ∷ w) x h e a =
    get_or-set_other (marks hs w) y x true false (λ i. never (sym (among-here w x y i) ∙ a))
    ∙ unmarked hs w x h e (not_so _ (λ i. never (sym (among_later w x y i) ∙ a)))

pub marked-held : (hs : List Bool) (w : List ℕ) (x : ℕ) → x < length hs → get_or hs x false ≡ true
    → get_or (marks hs w) x false ≡ true
unfolding marks
marked-held hs [] x h e = e
marked-held hs (y ∷ w) x h e = go (ℕ_discrete x y) (marked-held hs w x h e)
  where
    go : Dec (x ≡ y) → get_or (marks hs w) x false ≡ true → get_or (set (marks hs w) y true) x false ≡ true
    go (yes i) f =
        ap (λ (z : ℕ). get_or (set (marks hs w) y true) z false) i
        ∙ get_or-set_same (marks hs w) y true false (omega (arith, marks-length hs w))
    go (no i) f = get_or-set_other (marks hs w) y x true false i ∙ f

pub marked-waits : (hs : List Bool) (w : List ℕ) (x : ℕ) → x < length hs → among w x ≡ true
    → get_or (marks hs w) x false ≡ true
unfolding marks
marked-waits hs [] x h e = absurd (never (sym e))
marked-waits hs (y ∷ w) x h e = go (ℕ_discrete x y) (marked-waits hs w x h)
  where
    go : Dec (x ≡ y) → (among w x ≡ true → get_or (marks hs w) x false ≡ true)
        → get_or (set (marks hs w) y true) x false ≡ true
    go (yes i) f =
        ap (λ (z : ℕ). get_or (set (marks hs w) y true) z false) i
        ∙ get_or-set_same (marks hs w) y true false (omega (arith, marks-length hs w))
    go (no i) f =
        get_or-set_other (marks hs w) y x true false i
        ∙ f (among_cases w x y e (λ j. absurd (i j)) (λ j. j))

-- Each of those that wait is one mark more, so that there are never more of them than marks.
pub marks-weight : (hs : List Bool) (n : ℕ) (w : List ℕ) → n ≤ length hs → Waits hs n w
    → weight bit (marks hs w) ≡ weight bit hs + length w
unfolding marks
marks-weight hs n [] h s = omega arith
marks-weight hs n (x ∷ w) h s =
    let i : x < length hs = omega (arith, s.below x (among-here w x x refl)) in
    let f =
    unmarked hs w x i (s.apart x (among-here w x x refl)) (differ-head w x s.distinct) in
    let g : bit (get_or (marks hs w) x false) ≡ 0 = ap bit f in
    omega (
      arith,
      g,
      weight-set bit (marks hs w) x true false (omega (arith, marks-length hs w)),
      marks-weight hs n w h (waits-drop hs n (x ∷ w) 1 s),
    )

bit-small : (b : Bool) → bit b ≤ 1
bit-small true = omega arith
bit-small false = omega arith

pub room : (hs : List Bool) (n : ℕ) (w : List ℕ) → n ≤ length hs → Waits hs n w
    → weight bit hs + length w ≤ length hs
room hs n w h s =
    omega (arith, marks-weight hs n w h s, weight-length bit bit-small (marks hs w), marks-length hs w)

-- K, n and the kinds, which a line has from its opening and no move changes, within their bounds.
pub record Bounds (k n : ℕ) (ks : List ℕ) : Type 0 where
  pub permits : up_to32 k ≡ true
  pub parties : up_to32 n ≡ true
  pub known : kinds_known ks ≡ true
  pub desk : has_desk ks ≡ true

-- The whole line.
pub record Fit (l : Line) : Type 0 where
  pub bounds : Bounds l.permits l.parties l.kinds
  pub short : l.waiting ≤ PARTIES
  pub below : (p : ℕ) → get_or l.holding p false ≡ true → p < l.parties
  pub waits : Waits l.holding l.parties (waiters l)
  pub few : holder_count l ≤ l.permits
  pub full : 1 ≤ l.waiting → holder_count l ≡ l.permits
  pub rest : (i : ℕ) → l.waiting ≤ i → get_or l.queue i 0 ≡ 0

module _ (l : Line) where
  -- Everybody on the line is told from the marks and from those that wait.
  pub waits-of : differ (everybody l) ≡ true → all_pass (λ p. ltb p l.parties) (everybody l) ≡ true
      → Waits l.holding l.parties (waiters l)
  unfolding holders
  waits-of d a =
      record {
        distinct = differ-second (holders l) (waiters l) d;
        below = λ x e. ltb-true _ _ (pass-each _ (everybody l) a x (among-back (holders l) (waiters l) x e));
        apart = λ x e. sym (holds-there l.holding x) ∙ differ-apart (holders l) (waiters l) d x e;
      }

  pub below_of : all_pass (λ p. ltb p l.parties) (holders l) ≡ true
      → (p : ℕ) → get_or l.holding p false ≡ true → p < l.parties
  unfolding holders
  below_of a p e = ltb-true _ _ (pass-each _ (holders l) a p (holds-there l.holding p ∙ e))

  pub holders-below : ((p : ℕ) → get_or l.holding p false ≡ true → p < l.parties)
      → all_pass (λ p. ltb p l.parties) (holders l) ≡ true
  unfolding holders
  holders-below h =
      each-passes _ (holders l) (λ x e. lt-ltb _ _ (h x (sym (holds-there l.holding x) ∙ e)))

  pub all-differ : Waits l.holding l.parties (waiters l) → differ (everybody l) ≡ true
  unfolding holders
  all-differ s =
      differ-both (holders l) (waiters l) (holders-differ l.holding 0) s.distinct
      (λ x e. holds-there l.holding x ∙ s.apart x e)

  pub all-below : all_pass (λ p. ltb p l.parties) (holders l) ≡ true
      → Waits l.holding l.parties (waiters l) → all_pass (λ p. ltb p l.parties) (everybody l) ≡ true
  all-below a s =
      each-passes _ (everybody l)
      (λ x e.
      among-either (holders l) (waiters l) x e (pass-each _ (holders l) a x) (λ i. lt-ltb _ _ (s.below x i)))

  implied : (a b : Bool) → implies a b ≡ true → a ≡ true → b ≡ true
  implied true b e f = e
  implied false b e f = absurd (never (sym f))

  implying : (a b : Bool) → (a ≡ true → b ≡ true) → implies a b ≡ true
  implying true b h = h refl
  implying false b h = refl

  pub front_below : all_pass (λ p. ltb p l.parties) (everybody l) ≡ true
      → all_pass (λ p. ltb p l.parties) (holders l) ≡ true
  front_below a =
      each-passes _ (holders l) (λ x e. pass-each _ (everybody l) a x (among-front (holders l) (waiters l) x e))

  -- Behind those that wait the queue is 0.
  pub unused : all_pass (λ b. eqb b 0) (drop l.waiting l.queue) ≡ true
      → (i : ℕ) → l.waiting ≤ i → get_or l.queue i 0 ≡ 0
  unused z i h =
      let k : l.waiting + (i - l.waiting) ≡ i = omega arith in
      ap (λ (j : ℕ). get_or l.queue j 0) (sym k)
      ∙ sym (get_or-drop l.waiting l.queue (i - l.waiting) 0)
      ∙ zeros _ z (i - l.waiting)

  pub rest-zero : line_fits l ≡ true → all_pass (λ b. eqb b 0) (drop l.waiting l.queue) ≡ true
  unfolding line_fits
  rest-zero e = clause 7 (line_clauses l) e

  pub fit : line_fits l ≡ true → Fit l
  unfolding line_fits
  fit e =
      let a = clause 4 (line_clauses l) e in
      record {
        bounds =
            record {
              permits = clause 0 (line_clauses l) e;
              parties = clause 1 (line_clauses l) e;
              known = clause 8 (line_clauses l) e;
              desk = clause 9 (line_clauses l) e;
            };
        short = leb-true _ _ (clause 2 (line_clauses l) e);
        below = below_of (front_below a);
        waits = waits-of (clause 3 (line_clauses l) e) a;
        few = leb-true _ _ (clause 5 (line_clauses l) e);
        full = λ h. eqb-true _ _ (implied _ _ (clause 6 (line_clauses l) e) (le-leb _ _ h));
        rest = unused (clause 7 (line_clauses l) e);
      }

  pub fits : Fit l → line_fits l ≡ true
  unfolding line_fits
  fits f =
      passed _ _ f.bounds.permits
      (passed _ _ f.bounds.parties
      (passed _ _ (le-leb _ _ f.short)
      (passed _ _ (all-differ f.waits)
      (passed _ _ (all-below (holders-below f.below) f.waits)
      (passed _ _ (le-leb _ _ f.few)
      (passed _ _ (implying _ _ (λ h. eq-eqb _ _ (f.full (leb-true _ _ h))))
      (passed _ _
      (all-zero _ (λ i. get_or-drop l.waiting l.queue i 0 ∙ f.rest (l.waiting + i) (omega arith)))
      (passed _ _ f.bounds.known (passed _ _ f.bounds.desk none)))))))))
