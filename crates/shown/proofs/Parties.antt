-- Lists of parties, by their phases.
use Prim.Native.Nat.{ℕ, zero, suc, ◌+◌, ◌≤◌, ◌<◌}
use mathlib.Core.Path.{◌≡◌, refl, sym, ap, ap₂, ◌∙◌}
use mathlib.Core.Bool.{Bool, true, false, cond, ◌||◌}
use mathlib.Core.List.{List, [], ◌∷◌, ◌++◌, map, append_assoc}
use mathlib.Core.Logic.{◌≢◌}
use native.Mathlib.Omega.{arith}
use borrow.Author.Tests.{eq-eqb}
use lib.Dec.{eqb}
use lib.ListN.{length, get_or, set, get_or-map}
use lib.Seq.{map-set_same}
use Rattle.hub.specs.declared.record.Phase.{Phase}
use Rattle.hub.specs.Basics.{among, bit, count}
use Rattle.hub.specs.Ledger.{phase_in}
use Rattle.hub.specs.Phases.{is_one_of}
use Rattle.hub.proofs.Laws.Lists.{weight-map}
use Rattle.screen.specs.Line.{holders_from}
use Rattle.screen.specs.Moves.{without}
use Rattle.screen.proofs.Laws.Holders.{held-weight, holds-there}
use Rattle.shown.specs.Parties.{parties_from, waits_with, waiters_from}

-- Of the parties from p on, those that pass a test: the screen's list of those whose Bool is true.
pub parties-bits : (p : ℕ) (f : Phase → Bool) (l : List Phase)
    → parties_from p f l ≡ holders_from p (map f l)
unfolding parties_from holders_from
parties-bits p f [] = refl
parties-bits p f (x ∷ l) =
    ap (λ (r : List ℕ). cond (f x) (p ∷ r) r) (parties-bits (suc p) f l)

-- Tests that agree on every phase of the list give the same parties.
pub parties-alike : (p : ℕ) (f g : Phase → Bool) (l : List Phase)
    → ((q : ℕ) → f (phase_in l q) ≡ g (phase_in l q)) → parties_from p f l ≡ parties_from p g l
unfolding parties_from
parties-alike p f g [] e = refl
parties-alike p f g (x ∷ l) e =
    ap₂ (λ (b : Bool) (r : List ℕ). cond b (p ∷ r) r) (e 0)
    (parties-alike (suc p) f g l (λ q. e (suc q)))

-- They are as many as the test counts, and those that pass are among them.
pub parties-count : (f : Phase → Bool) (l : List Phase) → length (parties_from 0 f l) ≡ count f l
parties-count f l = ap length (parties-bits 0 f l) ∙ held-weight (map f l) 0 ∙ weight-map bit f l

parties-among : (f : Phase → Bool) (l : List Phase) → f Phase.Free ≡ false → (p : ℕ)
    → among (parties_from 0 f l) p ≡ f (phase_in l p)
parties-among f l z p =
    ap (λ (r : List ℕ). among r p) (parties-bits 0 f l) ∙ holds-there (map f l) p
    ∙ ap (get_or (map f l) p) (sym z) ∙ get_or-map f l p Phase.Free

-- One phase replaced by another that is tested alike changes nothing.
pub parties-set : (p : ℕ) (f : Phase → Bool) (l : List Phase) (i : ℕ) (x : Phase)
    → f x ≡ f (phase_in l i) → parties_from p f (set l i x) ≡ parties_from p f l
parties-set p f l i x e =
    parties-bits p f (set l i x) ∙ ap (holders_from p) (map-set_same f l i x Phase.Free e)
    ∙ sym (parties-bits p f l)

-- Nobody passes; one party alone does.
pub parties-none : (p : ℕ) (f : Phase → Bool) (l : List Phase)
    → ((q : ℕ) → f (phase_in l q) ≡ false) → parties_from p f l ≡ []
unfolding parties_from
parties-none p f [] e = refl
parties-none p f (x ∷ l) e =
    ap (λ (b : Bool). cond b (p ∷ parties_from (suc p) f l) (parties_from (suc p) f l)) (e 0)
    ∙ parties-none (suc p) f l (λ q. e (suc q))

pub parties-one : (p : ℕ) (f : Phase → Bool) (l : List Phase) (i q : ℕ) → q ≡ p + i
    → f Phase.Free ≡ false → f (phase_in l i) ≡ true → ((j : ℕ) → j ≢ i → f (phase_in l j) ≡ false)
    → parties_from p f l ≡ q ∷ []
unfolding parties_from
parties-one p f [] i q d z e o = cc
parties-one p f (x ∷ l) zero q d z e o =
    ap (λ (b : Bool). cond b (p ∷ parties_from (suc p) f l) (parties_from (suc p) f l)) e
    ∙ ap₂ ◌∷◌ (start d) (parties-none (suc p) f l (λ j. o (suc j) (λ i. omega arith)))
  where
    start : q ≡ p + 0 → p ≡ q
    start d = omega arith
parties-one p f (x ∷ l) (suc i) q d z e o =
    ap (λ (b : Bool). cond b (p ∷ parties_from (suc p) f l) (parties_from (suc p) f l))
    (o 0 (λ i. omega arith))
    ∙ parties-one (suc p) f l i q (omega arith) z e (λ j n. o (suc j) (λ i. n (omega arith)))

-- Somebody is in the first of two lists or in the second.
among-append : (a b : List ℕ) (x : ℕ) → among (a ++ b) x ≡ among a x || among b x
among-append [] b x = refl
among-append (y ∷ a) b x = go (eqb x y) (among-append a b x)
  where
    go : (c : Bool) → among (a ++ b) x ≡ among a x || among b x
        → c || among (a ++ b) x ≡ (c || among a x) || among b x
    go true e = refl
    go false e = e

-- A list without one that is not in its front.
pub without-behind : (a : List ℕ) (x : ℕ) (b : List ℕ) → among a x ≡ false
    → without x (a ++ x ∷ b) ≡ a ++ b
unfolding without
without-behind [] x b e =
    ap (λ (c : Bool). cond c b (x ∷ without x b)) (eq-eqb x x refl)
without-behind (y ∷ a) x b e = go (eqb x y) e (without-behind a x b)
  where
    go : (c : Bool) → c || among a x ≡ false → (among a x ≡ false → without x (a ++ x ∷ b) ≡ a ++ b)
        → cond c (a ++ x ∷ b) (y ∷ without x (a ++ x ∷ b)) ≡ y ∷ a ++ b
    go true i ih = cc
    go false i ih = ap (λ (r : List ℕ). y ∷ r) (ih i)

-- Numbers in turn: two rows of them are one; rows whose parties are the same; a row without any.
pub waiters-split : (t a b n s : ℕ) (l : List Phase) → n ≡ a + b → s ≡ t + a
    → waiters_from t n l ≡ waiters_from t a l ++ waiters_from s b l
unfolding waiters_from
waiters-split t zero b n s l d e = ap₂ (λ (x y : ℕ). waiters_from x y l) (start e) (none d)
  where
    start : s ≡ t + 0 → t ≡ s
    start e = omega arith

    none : n ≡ 0 + b → n ≡ b
    none d = omega arith
waiters-split t (suc a) b n s l d e =
    ap (λ (x : ℕ). waiters_from t x l) (one d)
    ∙ ap (λ (r : List ℕ). parties_from 0 (waits_with t) l ++ r)
    (waiters-split (suc t) a b (a + b) s l refl (omega arith))
    ∙ sym (append_assoc (parties_from 0 (waits_with t) l) (waiters_from (suc t) a l) (waiters_from s b l))
  where
    one : n ≡ suc a + b → n ≡ suc (a + b)
    one d = omega arith

pub waiters-same : (t n : ℕ) (l m : List Phase)
    → ((u : ℕ) → t ≤ u → u < t + n → parties_from 0 (waits_with u) l ≡ parties_from 0 (waits_with u) m)
    → waiters_from t n l ≡ waiters_from t n m
unfolding waiters_from
waiters-same t zero l m e = refl
waiters-same t (suc n) l m e =
    ap₂ ◌++◌ (e t (omega arith) (omega arith))
    (waiters-same (suc t) n l m (λ u a b. e u (omega arith) (omega arith)))

pub waiters-none : (t n : ℕ) (l : List Phase)
    → ((u : ℕ) → t ≤ u → u < t + n → parties_from 0 (waits_with u) l ≡ [])
    → waiters_from t n l ≡ []
unfolding waiters_from
waiters-none t zero l e = refl
waiters-none t (suc n) l e =
    ap₂ ◌++◌ (e t (omega arith) (omega arith))
    (waiters-none (suc t) n l (λ u a b. e u (omega arith) (omega arith)))

pub waiters-without : (t n : ℕ) (l : List Phase) (p : ℕ)
    → ((u : ℕ) → t ≤ u → u < t + n → waits_with u (phase_in l p) ≡ false)
    → among (waiters_from t n l) p ≡ false
unfolding waiters_from is_one_of
waiters-without t zero l p e = refl
waiters-without t (suc n) l p e =
    among-append (parties_from 0 (waits_with t) l) (waiters_from (suc t) n l) p
    ∙ ap₂ ◌||◌ (parties-among (waits_with t) l refl p ∙ e t (omega arith) (omega arith))
    (waiters-without (suc t) n l p (λ u a b. e u (omega arith) (omega arith)))
