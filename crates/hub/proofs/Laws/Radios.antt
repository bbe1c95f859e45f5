-- Radios that are all different, as they are met one after the other; an opening's 32 bytes; and the answers that move
-- none.
use Prim.Native.Nat.{ℕ, zero, suc, ◌+◌, ◌≤◌, ◌<◌}
use mathlib.Core.Path.{◌≡◌, refl, sym, ap, subst, ◌∙◌}
use mathlib.Core.Bool.{Bool, true, false, not, ◌&&◌, ◌||◌}
use mathlib.Core.List.{List, [], ◌∷◌, ◌++◌}
use native.Mathlib.Decide.{ℕ_discrete}
use native.Mathlib.Omega.{arith}
use borrow.Author.Tests.{eq-eqb, ne_eqb, eqb-false}
use lib.Dec.{eqb}
use lib.ListN.{length, get_or, set, take, drop, replicate, length-append}
use lib.ListN.{length-replicate, length-set, take-append-drop}
use lib.Seq.{length-take-le, take-append-le, take_all, take-suc, get_or-set_same, get_or-set_other}
use Rattle.hub.specs.declared.opening.Opening.{Opening}
use Rattle.hub.specs.declared.record.Pool.{Pool}
use Rattle.hub.specs.Answers.{Printed}
use Rattle.hub.specs.Basics.{among}
use Rattle.hub.specs.Radios.{STORE, differ, moved, radios_of, ring_from, padded}

-- An answer with a refusal's code moves no radio.
pub unmoved : (y : Printed) (p : ℕ) (q : Pool) → y.code ≤ 17 → moved y p q ≡ q
unfolding moved
unmoved y p q l =
    rw (
      above 0x36 (omega arith),
      above 0x38 (omega arith),
      above 0x2D (omega arith),
      above 0x29 (omega arith),
      above 0x2B (omega arith),
      above 0x25 (omega arith),
      above 0x31 (omega arith),
      above 0x2A (omega arith),
      above 0x33 (omega arith),
    ) refl
  where
    above : (k : ℕ) → 17 < k → eqb y.code k ≡ false
    above k h = ne_eqb y.code k (λ e. omega arith)

-- 32 bytes are the whole of it.
pub padded-same : (l : List ℕ) → length l ≡ STORE → padded l ≡ l
unfolding padded
padded-same l e =
    take-append-le STORE l (replicate STORE 0) (omega (arith, e)) ∙ take_all STORE l (omega (arith, e))

pub padded-length : (l : List ℕ) → length (padded l) ≡ STORE
unfolding padded
padded-length l =
    length-take-le STORE (l ++ replicate STORE 0)
    (omega (arith, length-append l (replicate STORE 0), length-replicate {A = ℕ} STORE 0))

pub radios-of : (o : Opening) → length o.radios ≡ STORE → radios_of o ≡ take o.permits o.radios
unfolding radios_of
radios-of o e = ap (take o.permits) (padded-same o.radios e)

or-true : (c : Bool) → c || true ≡ true
or-true true = refl
or-true false = refl

or-false : (c : Bool) → c || false ≡ c
or-false true = refl
or-false false = refl

-- So many are in a ring.
pub ring-length : (l : List ℕ) (i n : ℕ) → length (ring_from l i n) ≡ n
unfolding ring_from
ring-length l i zero = refl
ring-length l i (suc n) = ap suc (ring-length l (suc i) n)

-- One more is met.
among-end : (l : List ℕ) (x b : ℕ) → among (l ++ (x ∷ [])) b ≡ among l b || eqb b x
among-end [] x b = or-false (eqb b x)
among-end (y ∷ l) x b = go (eqb b y) (among-end l x b)
  where
    go : (c : Bool) → among (l ++ (x ∷ [])) b ≡ among l b || eqb b x
        → c || among (l ++ (x ∷ [])) b ≡ (c || among l b) || eqb b x
    go true e = refl
    go false e = e

-- What differs in a longer list differs in its front.
among-front : (l m : List ℕ) (x : ℕ) → among l x ≡ true → among (l ++ m) x ≡ true
among-front [] m x e = cc
among-front (y ∷ l) m x e = go (eqb x y) e (among-front l m x)
  where
    go : (c : Bool) → c || among l x ≡ true → (among l x ≡ true → among (l ++ m) x ≡ true)
        → c || among (l ++ m) x ≡ true
    go true i ih = refl
    go false i ih = ih i

differ-front : (l m : List ℕ) → differ (l ++ m) ≡ true → differ l ≡ true
unfolding differ
differ-front [] m e = refl
differ-front (x ∷ l) m e = go (among l x) refl (among (l ++ m) x) refl e (differ-front l m)
  where
    go : (c : Bool) → among l x ≡ c → (d : Bool) → among (l ++ m) x ≡ d
        → not d && differ (l ++ m) ≡ true → (differ (l ++ m) ≡ true → differ l ≡ true)
        → not c && differ l ≡ true
    go false i false j f ih = ih f
    go true i false j f ih = sym j ∙ among-front l m x i
    go false i true j f ih = cc
    go true i true j f ih = f

-- The last one is not among those before it.
differ-last : (l : List ℕ) (x : ℕ) → differ (l ++ (x ∷ [])) ≡ true → among l x ≡ false
unfolding differ
differ-last [] x e = refl
differ-last (y ∷ l) x e = go (ℕ_discrete x y) (among (l ++ (x ∷ [])) y) refl e (differ-last l x)
  where
    go : Dec (x ≡ y) → (d : Bool) → among (l ++ (x ∷ [])) y ≡ d
        → not d && differ (l ++ (x ∷ [])) ≡ true
        → (differ (l ++ (x ∷ [])) ≡ true → among l x ≡ false) → eqb x y || among l x ≡ false
    go d true j f ih = cc
    go (no n) false j f ih = ap (λ (b : Bool). b || among l x) (ne_eqb x y n) ∙ ih f
    go (yes n) false j f ih =
        let i : true ≡ false =
        sym (or-true (among l y)) ∙ ap (λ (b : Bool). among l y || b) (sym (eq-eqb y x (sym n)))
        ∙ sym (among-end l x y) ∙ j in
        cc

differ-end : (l : List ℕ) (x : ℕ) → differ l ≡ true → among l x ≡ false
    → differ (l ++ (x ∷ [])) ≡ true
unfolding differ
differ-end [] x e f = refl
differ-end (y ∷ l) x e f = go (among l y) refl (eqb x y) refl e f (differ-end l x)
  where
    go : (c : Bool) → among l y ≡ c → (d : Bool) → eqb x y ≡ d → not c && differ l ≡ true
        → d || among l x ≡ false
        → (differ l ≡ true → among l x ≡ false → differ (l ++ (x ∷ [])) ≡ true)
        → not (among (l ++ (x ∷ [])) y) && differ (l ++ (x ∷ [])) ≡ true
    go true i d j e f ih = cc
    go false i true j e f ih = cc
    go false i false j e f ih =
        let n : among (l ++ (x ∷ [])) y ≡ false =
        among-end l x y ∙ ap (λ (b : Bool). b || eqb y x) i
        ∙ ne_eqb y x (λ z. eqb-false x y j (sym z)) in
        ap (λ (b : Bool). not b && differ (l ++ (x ∷ []))) n ∙ ih e f

-- The first i of the radios l are met, all different, and marked.
pub record Met (l : List ℕ) (met : List Bool) (i : ℕ) : Type 0 where
  pub size : length met ≡ 256
  pub within : i ≤ length l
  pub marks : (b : ℕ) → b < 256 → get_or met b false ≡ among (take i l) b
  pub new : differ (take i l) ≡ true

pub met-none : (l : List ℕ) → Met l (replicate 256 false) 0
unfolding differ
met-none l =
    record { size = refl; within = omega arith; marks = λ b i. all 256 b; new = refl }
  where
    all : (n b : ℕ) → get_or (replicate n false) b false ≡ false
    all zero b = refl
    all (suc n) zero = refl
    all (suc n) (suc b) = all n b

module _ {l : List ℕ} {met : List Bool} {i : ℕ} (m : Met l met i) (s : i < length l)
    (x : ℕ) (y : x ≡ get_or l i 0) (w : x < 256) where
  next : take (suc i) l ≡ take i l ++ (x ∷ [])
  next = take-suc l i 0 s ∙ ap (λ (k : ℕ). take i l ++ (k ∷ [])) (sym y)

  -- One that is marked was met before.
  pub met-again : get_or met x false ≡ true → false ≡ differ l
  met-again v = go (differ l) refl
    where
      front : l ≡ (take i l ++ (x ∷ [])) ++ drop (suc i) l
      front = sym (take-append-drop (suc i) l) ∙ ap (λ (k : List ℕ). k ++ drop (suc i) l) next

      go : (b : Bool) → differ l ≡ b → false ≡ b
      go false e = refl
      go true e =
          sym (differ-last (take i l) x (differ-front _ _ (sym (ap differ front) ∙ e)))
          ∙ sym (m.marks x w) ∙ v

  -- One that is not is marked.
  pub met-new : get_or met x false ≡ false → Met l (set met x true) (i + 1)
  met-new v =
      let e : suc i ≡ i + 1 = omega arith in
      subst (Met l (set met x true)) e
      (record {
        size = length-set met x true ∙ m.size;
        within = omega (arith, s);
        marks = λ b j. marked b j (ℕ_discrete b x);
        new = ap differ next ∙ differ-end (take i l) x m.new (sym (m.marks x w) ∙ v);
      })
    where
      more : (b : ℕ) → among (take (suc i) l) b ≡ among (take i l) b || eqb b x
      more b = ap (λ (k : List ℕ). among k b) next ∙ among-end (take i l) x b

      marked : (b : ℕ) → b < 256 → Dec (b ≡ x)
          → get_or (set met x true) b false ≡ among (take (suc i) l) b
      marked b j (yes e) =
          ap (λ (k : ℕ). get_or (set met x true) k false) e
          ∙ get_or-set_same met x true false (omega (arith, m.size, w))
          ∙ sym (more b ∙ ap (λ (c : Bool). among (take i l) b || c) (eq-eqb b x e)
          ∙ or-true (among (take i l) b))
      marked b j (no e) =
          get_or-set_other met x b true false e ∙ m.marks b j
          ∙ sym (more b ∙ ap (λ (c : Bool). among (take i l) b || c) (ne_eqb b x e)
          ∙ or-false (among (take i l) b))

pub met-all : {l : List ℕ} {met : List Bool} {i : ℕ} → Met l met i → length l ≤ i → true ≡ differ l
met-all {l} {met} {i} m j = sym m.new ∙ ap differ (take_all i l j)
