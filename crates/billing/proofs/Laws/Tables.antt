-- A table of numbers, and one of them replaced.
use Prim.Native.Nat.{ℕ, zero, suc, suc-le-suc, ◌+◌, ◌≤◌, ◌<◌}
use mathlib.Core.Path.{◌≡◌, refl, sym, ap, ap₂, ◌∙◌}
use mathlib.Core.Bool.{cond}
use mathlib.Core.List.{List, ◌∷◌}
use native.Mathlib.Decide.{dec_le}
use native.Mathlib.Omega.{arith}
use borrow.Author.Tests.{lt-ltb, le-ltb}
use lib.Dec.{ltb}
use lib.ListN.{length, get_or, set, replicate}
use Rattle.billing.specs.Counting.{table}
use Rattle.billing.specs.Sharing.{up_to}

pub length-table : (n : ℕ) (f : ℕ → ℕ) → length (table n f) ≡ n
unfolding table
length-table zero f = refl
length-table (suc n) f = ap suc (length-table n (λ i. f (suc i)))

pub table-get : (n : ℕ) (f : ℕ → ℕ) (i : ℕ) → i < n → get_or (table n f) i 0 ≡ f i
unfolding table
table-get zero f i h = absurd (omega arith)
table-get (suc n) f zero h = refl
table-get (suc n) f (suc i) h = table-get n (λ j. f (suc j)) i (omega arith)

pub table_same : (n : ℕ) (f g : ℕ → ℕ) → ((i : ℕ) → i < n → f i ≡ g i) → table n f ≡ table n g
unfolding table
table_same zero f g e = refl
table_same (suc n) f g e =
    ap₂ ◌∷◌ (e 0 (omega arith))
    (table_same n (λ i. f (suc i)) (λ i. g (suc i)) (λ i h. e (suc i) (suc-le-suc h)))

pub table-set : (n : ℕ) (f g : ℕ → ℕ) (i v : ℕ) → i < n → v ≡ g i
    → ((j : ℕ) → j < n → (j ≡ i → ⊥) → f j ≡ g j) → set (table n f) i v ≡ table n g
unfolding table
table-set zero f g i v h w e = absurd (omega arith)
table-set (suc n) f g zero v h w e =
    ap₂ ◌∷◌ w
    (table_same n (λ j. f (suc j)) (λ j. g (suc j)) (λ j k. e (suc j) (suc-le-suc k) (λ z. omega arith)))
table-set (suc n) f g (suc i) v h w e =
    ap₂ ◌∷◌ (e 0 (omega arith) (λ z. omega arith))
    (table-set n (λ j. f (suc j)) (λ j. g (suc j)) i v (omega arith) w
    (λ j k z. e (suc j) (suc-le-suc k) (λ y. z (omega arith))))

pub table-zeros : (n : ℕ) → replicate n 0 ≡ table n (λ i. 0)
unfolding table
table-zeros zero = refl
table-zeros (suc n) = ap (λ (l : List ℕ). 0 ∷ l) (table-zeros n)

-- Below a bound, and then 0.
abbrev cut : ℕ → (ℕ → ℕ) → ℕ → ℕ
cut n f p = cond (ltb p n) (f p) 0

cut_in : (n : ℕ) (f : ℕ → ℕ) (p : ℕ) → p < n → cut n f p ≡ f p
cut_in n f p h = rw (lt-ltb p n h)

cut_out : (n : ℕ) (f : ℕ → ℕ) (p : ℕ) → n ≤ p → cut n f p ≡ 0
cut_out n f p h = rw (le-ltb p n h)

pub up-to-none : (f : ℕ → ℕ) → replicate 32 0 ≡ up_to 0 f
up-to-none f =
    table-zeros 32 ∙ table_same 32 (λ i. 0) (cut 0 f) (λ i h. sym (cut_out 0 f i (omega arith)))

pub up-to-more : (f : ℕ → ℕ) (i v : ℕ) → i < 32 → v ≡ f i → set (up_to i f) i v ≡ up_to (i + 1) f
up-to-more f i v h w =
    table-set 32 (cut i f) (cut (i + 1) f) i v h (w ∙ sym (cut_in (i + 1) f i (omega arith)))
    (λ j k z. go j z (dec_le i j))
  where
    go : (j : ℕ) → (j ≡ i → ⊥) → Dec (i ≤ j) → cut i f j ≡ cut (i + 1) f j
    go j z (yes k) = cut_out i f j k ∙ sym (cut_out (i + 1) f j (omega arith))
    go j z (no k) = cut_in i f j (omega arith) ∙ sym (cut_in (i + 1) f j (omega arith))

pub up-to-get : (n : ℕ) (f : ℕ → ℕ) (p : ℕ) → p < n → p < 32 → get_or (up_to n f) p 0 ≡ f p
up-to-get n f p h k = table-get 32 (cut n f) p k ∙ cut_in n f p h

pub up-to-same : (n : ℕ) (f g : ℕ → ℕ) → ((p : ℕ) → p < n → f p ≡ g p) → up_to n f ≡ up_to n g
up-to-same n f g e = table_same 32 (cut n f) (cut n g) (λ p h. go p (dec_le n p))
  where
    go : (p : ℕ) → Dec (n ≤ p) → cut n f p ≡ cut n g p
    go p (yes k) = cut_out n f p k ∙ sym (cut_out n g p k)
    go p (no k) =
        let h : p < n = omega arith in cut_in n f p h ∙ e p h ∙ sym (cut_in n g p h)
