-- The check, test by test.
use Prim.Native.Nat.{ℕ}
use mathlib.Core.Path.{◌≡◌, refl, sym, ap, ◌∙◌}
use mathlib.Core.Bool.{Bool, true, false, ◌&&◌}
use native.Mathlib.Omega.{arith}
use borrow.Author.Tests.{eq-eqb, le-leb, lt-leb}
use lib.Dec.{eqb, leb, ltb}
use lib.ListN.{drop, get_or}
use Rattle.hub.specs.Basics.{all_pass, implies, up_to32}
use Rattle.hub.specs.Kinds.{has_desk, kinds_known}
use Rattle.hub.specs.Radios.{differ}
use Rattle.hub.proofs.Laws.Bools.{both, clause, first, none, passed, second}
use Rattle.screen.specs.declared.record.Line.{Line}
use Rattle.screen.specs.Fits.{everybody, holder_count, line_clauses, line_fits}
use Rattle.screen.specs.Line.{holders}
use Rattle.screen.proofs.Laws.Fit.{front_below}
use Rattle.screen.proofs.Laws.Lists.{never, not_so}

same_truth : (a b : Bool) → (a ≡ true → b ≡ true) → (b ≡ true → a ≡ true) → a ≡ b
same_truth true b f g = sym (f refl)
same_truth false true f g = g refl
same_truth false false f g = refl

-- All clauses but one, as the check asks them one after the other.
abbrev pub asked : Line → Bool
asked l =
    up_to32 l.permits && up_to32 l.parties && leb l.waiting 32
    && all_pass (λ p. ltb p l.parties) (holders l)
    && (differ (everybody l) && all_pass (λ p. ltb p l.parties) (everybody l))
    && leb (holder_count l) l.permits
    && all_pass (λ b. eqb b 0) (drop l.waiting l.queue)
    && kinds_known l.kinds
    && has_desk l.kinds

module _ (l : Line) where
  -- What the check has asked so far, test by test.
  pub asked-so : (v1 v2 v3 v4 v5 v6 v7 v8 : Bool)
      → v1 ≡ (up_to32 l.permits && up_to32 l.parties)
      → v2 ≡ (v1 && leb l.waiting 32)
      → v3 ≡ (v2 && all_pass (λ p. ltb p l.parties) (holders l))
      → v4 ≡ (v3 && (differ (everybody l) && all_pass (λ p. ltb p l.parties) (everybody l)))
      → v5 ≡ (v4 && leb (holder_count l) l.permits)
      → v6 ≡ (v5 && all_pass (λ b. eqb b 0) (drop l.waiting l.queue))
      → v7 ≡ (v6 && kinds_known l.kinds)
      → v8 ≡ (v7 && has_desk l.kinds)
      → v8 ≡ asked l
  asked-so v1 v2 v3 v4 v5 v6 v7 v8 e1 e2 e3 e4 e5 e6 e7 e8 = rw (e8, e7, e6, e5, e4, e3, e2, e1)

  met-so : line_fits l ≡ true → asked l ≡ true
  unfolding line_fits
  met-so h =
      let a : (i : ℕ) → get_or (line_clauses l) i true ≡ true = λ i. clause i (line_clauses l) h in
      both _ _
      (both _ _
      (both _ _
      (both _ _
      (both _ _
      (both _ _ (both _ _ (both _ _ (a 0) (a 1)) (a 2)) (front_below l (a 4)))
      (both _ _ (a 3) (a 4)))
      (a 5))
      (a 7))
      (a 8))
      (a 9)

  -- One of them is not met.
  pub unmet : asked l ≡ false → false ≡ line_fits l
  unmet e = sym (not_so _ (λ h. never (sym (met-so h) ∙ e)))

  -- They are met; is the last: does anybody wait, and do K hold?
  met : asked l ≡ true → implies (leb 1 l.waiting) (eqb (holder_count l) l.permits) ≡ line_fits l
  unfolding line_fits
  met e =
      let desk = second _ _ e in
      let e8 = first _ (has_desk l.kinds) e in
      let e7 = first _ (kinds_known l.kinds) e8 in
      let e6 = first _ (all_pass (λ b. eqb b 0) (drop l.waiting l.queue)) e7 in
      let e5 = first _ (leb (holder_count l) l.permits) e6 in
      let q = second _ (differ (everybody l) && all_pass (λ p. ltb p l.parties) (everybody l)) e5 in
      let e4 = first _ (differ (everybody l) && all_pass (λ p. ltb p l.parties) (everybody l)) e5 in
      let e3 = first _ (all_pass (λ p. ltb p l.parties) (holders l)) e4 in
      let e2 = first _ (leb l.waiting 32) e3 in
      same_truth _ _
      (λ d.
      passed _ _ (first (up_to32 l.permits) (up_to32 l.parties) e2)
      (passed _ _ (second (up_to32 l.permits) (up_to32 l.parties) e2)
      (passed _ _ (second _ (leb l.waiting 32) e3)
      (passed _ _ (first (differ (everybody l)) _ q)
      (passed _ _ (second (differ (everybody l)) _ q)
      (passed _ _ (second _ (leb (holder_count l) l.permits) e6)
      (passed _ _ d
      (passed _ _ (second _ (all_pass (λ b. eqb b 0) (drop l.waiting l.queue)) e7)
      (passed _ _ (second _ (kinds_known l.kinds) e8) (passed _ _ desk none))))))))))
      (clause 6 (line_clauses l))

  -- The last: nobody waits, or K hold.
  pub met-empty : asked l ≡ true → l.waiting ≡ 0 → eqb l.waiting 0 ≡ line_fits l
  met-empty e w =
      eq-eqb l.waiting 0 w
      ∙ sym (ap (λ (b : Bool). implies b (eqb (holder_count l) l.permits)) (lt-leb 1 l.waiting (omega arith)))
      ∙ met e

  pub met-full : asked l ≡ true → (l.waiting ≡ 0 → ⊥) → (h : ℕ) → h ≡ holder_count l → eqb h l.permits ≡ line_fits l
  met-full e w h f =
      ap (λ (n : ℕ). eqb n l.permits) f
      ∙ sym (ap (λ (b : Bool). implies b (eqb (holder_count l) l.permits)) (le-leb 1 l.waiting (omega arith)))
      ∙ met e
