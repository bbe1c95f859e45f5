-- Lists made element by element, as the library's from_fn makes them.
use Prim.Native.Nat.{ℕ, zero, suc, ◌+◌, ◌≤◌, ◌<◌}
use denote.Param.Members.{Mut, Called}
use mathlib.Core.Path.{◌≡◌, refl, sym, ◌∙◌, subst}
use mathlib.Core.List.{List, [], ◌∷◌, ◌++◌}
use native.Mathlib.Omega.{arith}
use lib.ListN.{length, get_or, take}
use lib.Seq.{take_all, take-suc}
use Rattle.std.specs.Array.{IsFromFnResult, IsFromFnResultFrom}
use Rattle.cells.specs.Bytes.{each}

-- A list whose every element is f's.
pub all_each : {A : Type 0} (f : ℕ → A) (n : ℕ) (l : List A) → length l ≡ n
    → ((i : ℕ) (d : A) → i < n → get_or l i d ≡ f i) → l ≡ each n f
unfolding each
all_each {A} f n l e h =
    sym (take_all n l (omega (arith, e))) ∙ go n (omega arith)
  where
    go : (k : ℕ) → k ≤ n → take k l ≡ each k f
    go zero m = refl
    go (suc k) m =
        take-suc l k (f k) (omega (arith, e))
        ∙ (λ j. go k (omega arith) j ++ (h k (f k) (omega arith) j ∷ []))

-- What from_fn makes by a closure that answers f of each index, and stays as it is.
module _ {F A : Type 0} (g : Mut F (ℕ × Unit {0}) A) (p : F) (f : ℕ → A) (n : ℕ)
    (calls : (i : ℕ) (y : A) (q : F) → i < n → Called g p (i, tt) y q → (q ≡ p) × (y ≡ f i)) where
  from_index : (m i : ℕ) (r : F) (l : List A) → i + m ≤ n → r ≡ p → IsFromFnResultFrom g r l i m
      → (k : ℕ) (d : A) → k < m → get_or l (i + k) d ≡ f (i + k)
  from_index zero i r l b e t k d h = absurd (omega arith)
  from_index (suc m) i r l b e t zero d h =
      let c = calls i t.1 t.0 (omega arith) (subst (λ (s : F). Called g s (i, tt) t.1 t.0) e t.3) in
      subst (λ (j : ℕ). get_or l j d ≡ f j) (none i) (t.2.1 d ∙ c.1)
    where
      none : (j : ℕ) → j ≡ j + 0
      none j = omega arith
  from_index (suc m) i r l b e t (suc k) d h =
      let c = calls i t.1 t.0 (omega arith) (subst (λ (s : F). Called g s (i, tt) t.1 t.0) e t.3) in
      subst (λ (j : ℕ). get_or l j d ≡ f j) (next i k)
      (from_index m (i + 1) t.0 l (omega arith) c.0 t.4 k d (omega arith))
    where
      next : (j k : ℕ) → j + 1 + k ≡ j + suc k
      next j k = omega arith

  pub from_fn-each : (l : List A) → IsFromFnResult g p l n → l ≡ each n f
  from_fn-each l r =
      all_each f n l r.long
      (λ i d h. subst (λ (j : ℕ). get_or l j d ≡ f j) (past i) (from_index n 0 p l (omega arith) refl r.each i d h))
    where
      past : (i : ℕ) → 0 + i ≡ i
      past i = omega arith
