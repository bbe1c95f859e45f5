-- Why as many parties come among the first L as there are places, L: ranks run from 0 to n − 1, each
-- once. By induction on n: the last party is put among the others, whose order stays, and moves
-- those behind it down by one.
use Prim.Native.Nat.{ℕ, zero, suc, ◌+◌, ◌≤◌, ◌<◌}
use mathlib.Core.Path.{◌≡◌, refl, ap, ◌∙◌}
use mathlib.Core.Bool.{true, false}
use mathlib.Core.Logic.{◌⊎◌, inl, inr}
use native.Mathlib.Decide.{ℕ_discrete, dec_le}
use native.Mathlib.Omega.{arith}
use borrow.Author.Tests.{lt-ltb, le-ltb, eq-eqb, ne_eqb}
use lib.Dec.{ltb}
use Rattle.hub.specs.Basics.{bit}
use Rattle.billing.specs.Counting.{sum, count_below}
use Rattle.billing.specs.Sharing.{precedes, rank}
use Rattle.billing.proofs.Laws.Sums.{bit-most, bit-true, bit-false, sum-le, sum_lt, sum_same}
use Rattle.billing.proofs.Laws.Sums.{count_most}

-- The order, as a fact.
abbrev Ahead : ℕ → ℕ → ℕ → ℕ → Type 0
Ahead r q s p = (s < r) ⊎ ((r ≡ s) × (q < p))

tied : (r q s p : ℕ) → r ≡ s → precedes r q s p ≡ ltb q p
unfolding precedes
tied r q s p e = rw (le-ltb s r (omega arith), eq-eqb r s e)

smaller : (r q s p : ℕ) → r ≤ s → (r ≡ s → ⊥) → precedes r q s p ≡ false
unfolding precedes
smaller r q s p h e = rw (le-ltb s r h, ne_eqb r s e)

ahead : (r q s p : ℕ) → Ahead r q s p → precedes r q s p ≡ true
unfolding precedes
ahead r q s p (inl h) = rw (lt-ltb s r h)
ahead r q s p (inr h) = tied r q s p h.0 ∙ lt-ltb q p h.1

not-ahead : (r q s p : ℕ) → (Ahead r q s p → ⊥) → precedes r q s p ≡ false
not-ahead r q s p n = go (dec_le r s) (ℕ_discrete r s) (dec_le p q)
  where
    go : Dec (r ≤ s) → Dec (r ≡ s) → Dec (p ≤ q) → precedes r q s p ≡ false
    go (no h) e d = absurd (n (inl (omega arith)))
    go (yes h) (no e) d = smaller r q s p h e
    go (yes h) (yes e) (yes d) = tied r q s p e ∙ le-ltb q p d
    go (yes h) (yes e) (no d) = absurd (n (inr (e, omega arith)))

-- A test of numbers that another one amounts to.
alike : (a b c d : ℕ) → (a < b → c < d) → (c < d → a < b) → bit (ltb a b) ≡ bit (ltb c d)
alike a b c d f g = go (dec_le b a)
  where
    go : Dec (b ≤ a) → bit (ltb a b) ≡ bit (ltb c d)
    go (yes h) =
        rw (le-ltb a b h, le-ltb c d (other (dec_le d c))) refl
      where
        other : Dec (d ≤ c) → d ≤ c
        other (yes k) = k
        other (no k) = let z = g (omega arith) in omega arith
    go (no h) = rw (lt-ltb a b (omega arith), lt-ltb c d (f (omega arith))) refl

module _ (r : ℕ → ℕ) where
  -- 1 if q comes before p.
  abbrev first : ℕ → ℕ → ℕ
  first q p = bit (precedes (r q) q (r p) p)

  -- A strict order, in which of two parties one comes first.
  itself : (p : ℕ) → first p p ≡ 0
  itself p =
      bit-false (not-ahead (r p) p (r p) p (λ a. no a))
    where
      no : Ahead (r p) p (r p) p → ⊥
      no (inl h) = omega arith
      no (inr h) = omega (arith, h.1)

  yes-first : (q p : ℕ) → Ahead (r q) q (r p) p → first q p ≡ 1
  yes-first q p a = bit-true (ahead (r q) q (r p) p a)

  not_first : (q p : ℕ) → (Ahead (r q) q (r p) p → ⊥) → first q p ≡ 0
  not_first q p n = bit-false (not-ahead (r q) q (r p) p n)

  -- Either party first, with what makes it so.
  either : (q p : ℕ) → (q ≡ p → ⊥) → Ahead (r q) q (r p) p ⊎ Ahead (r p) p (r q) q
  either q p n = go (dec_le (r q) (r p)) (dec_le (r p) (r q)) (dec_le q p)
    where
      go : Dec (r q ≤ r p) → Dec (r p ≤ r q) → Dec (q ≤ p)
          → Ahead (r q) q (r p) p ⊎ Ahead (r p) p (r q) q
      go (no h) k d = inl (inl (omega arith))
      go (yes h) (no k) d = inr (inl (omega arith))
      go (yes h) (yes k) (yes d) = inl (inr (omega arith, omega arith))
      go (yes h) (yes k) (no d) = inr (inr (omega arith, omega arith))

  through : (q p s : ℕ) → Ahead (r q) q (r p) p → Ahead (r p) p (r s) s → Ahead (r q) q (r s) s
  through q p s (inl a) (inl b) = inl (omega arith)
  through q p s (inl a) (inr b) = inl (omega (arith, b.0))
  through q p s (inr a) (inl b) = inl (omega (arith, a.0))
  through q p s (inr a) (inr b) = inr (omega (arith, a.0, b.0), omega (arith, a.1, b.1))

  not-both : (q p : ℕ) → Ahead (r q) q (r p) p → Ahead (r p) p (r q) q → ⊥
  not-both q p (inl a) (inl b) = omega arith
  not-both q p (inl a) (inr b) = omega (arith, b.0)
  not-both q p (inr a) (inl b) = omega (arith, a.0)
  not-both q p (inr a) (inr b) = omega (arith, a.1, b.1)

  -- Whoever comes before p comes before those behind p.
  onward : (p s : ℕ) → Ahead (r p) p (r s) s → (q : ℕ) → first q p ≤ first q s
  onward p s a q = go (ℕ_discrete q p)
    where
      other : Ahead (r q) q (r p) p ⊎ Ahead (r p) p (r q) q → first q p ≤ first q s
      other (inl b) =
          omega (arith, yes-first q s (through q p s b a), bit-most (precedes (r q) q (r p) p))
      other (inr b) = omega (arith, not_first q p (λ c. not-both q p c b))

      go : Dec (q ≡ p) → first q p ≤ first q s
      go (yes e) = omega (arith, ap (λ (x : ℕ). first x p) e, itself p)
      go (no e) = other (either q p e)

  -- So a party's rank is below the ranks of those behind it, where it is counted itself.
  rank-under : (n p s : ℕ) → Ahead (r p) p (r s) s → rank r n p ≤ rank r n s
  unfolding rank
  rank-under n p s a = sum-le (λ q. first q p) (λ q. first q s) n (λ q h. onward p s a q)

  rank_below : (n p s : ℕ) → p < n → Ahead (r p) p (r s) s → rank r n p < rank r n s
  unfolding rank
  rank_below n p s h a =
      sum_lt (λ q. first q p) (λ q. first q s) p n h (omega (arith, itself p, yes-first p s a))
      (λ q k. onward p s a q)

  rank-more : (n p : ℕ) → rank r (suc n) p ≡ rank r n p + first n p
  unfolding rank sum
  rank-more n p = refl

  rank_most : (n p : ℕ) → rank r n p ≤ n
  unfolding rank
  rank_most n p = count_most (λ q. precedes (r q) q (r p) p) n

  -- 1 if party p of n is among the first l.
  abbrev chosen : ℕ → ℕ → ℕ → ℕ
  chosen n l p = bit (ltb (rank r n p) l)

  module _ (n : ℕ) where
    -- The last party comes behind the first l of the others, and takes nobody's place.
    behind : (l p : ℕ) → p < n → l ≤ rank r n n → chosen (suc n) l p ≡ chosen n l p
    behind l p h k = go (either p n (λ e. omega arith))
      where
        go : Ahead (r p) p (r n) n ⊎ Ahead (r n) n (r p) p → chosen (suc n) l p ≡ chosen n l p
        go (inl a) =
            let z = not_first n p (λ b. not-both p n a b) in
            alike _ l _ l (λ i. omega (arith, rank-more n p)) (λ i. omega (arith, rank-more n p))
        go (inr a) =
            let z = rank-under n n p a in
            alike _ l _ l (λ i. omega (arith, rank-more n p)) (λ i. omega (arith, rank-more n p))

    -- It comes among them, and takes the last place.
    among-them : (l p : ℕ) → p < n → rank r n n ≤ l → chosen (suc n) (suc l) p ≡ chosen n l p
    among-them l p h k = go (either p n (λ e. omega arith))
      where
        go : Ahead (r p) p (r n) n ⊎ Ahead (r n) n (r p) p → chosen (suc n) (suc l) p ≡ chosen n l p
        go (inl a) =
            let z = not_first n p (λ b. not-both p n a b) in
            let y = rank_below n p n h a in
            alike _ (suc l) _ l (λ i. omega (arith, rank-more n p)) (λ i. omega (arith, rank-more n p))
        go (inr a) =
            let z = yes-first n p a in
            alike _ (suc l) _ l (λ i. omega (arith, rank-more n p)) (λ i. omega (arith, rank-more n p))

    last-rank : rank r (suc n) n ≡ rank r n n
    last-rank = omega (arith, rank-more n n, itself n)

  -- As many are among the first l as there are places.
  pub places : (n l : ℕ) → l ≤ n → sum (chosen n l) n ≡ l
  unfolding sum
  places zero l h = omega arith
  places (suc n) l h = go l h (dec_le l (rank r n n)) (places n)
    where
      go : (l : ℕ) → l ≤ suc n → Dec (l ≤ rank r n n) → ((m : ℕ) → m ≤ n → sum (chosen n m) n ≡ m)
          → sum (chosen (suc n) l) n + chosen (suc n) l n ≡ l
      go l h (yes k) i =
          omega (
            arith,
            sum_same (chosen (suc n) l) (chosen n l) n (λ p j. behind n l p j k),
            i l (omega (arith, rank_most n n)),
            bit-false (le-ltb (rank r (suc n) n) l (omega (arith, last-rank n))),
          )
      go zero h (no k) i = absurd (omega arith)
      go (suc m) h (no k) i =
          omega (
            arith,
            sum_same (chosen (suc n) (suc m)) (chosen n m) n (λ p j. among-them n m p j (omega arith)),
            i m (omega arith),
            bit-true (lt-ltb (rank r (suc n) n) (suc m) (omega (arith, last-rank n))),
          )

  -- Whoever has no remainder comes behind all that have one.
  abbrev pub remains : ℕ → ℕ
  remains n = count_below (λ q. ltb 0 (r q)) n

  pub rank-none : (n p : ℕ) → r p ≡ 0 → remains n ≤ rank r n p
  unfolding rank
  rank-none n p e =
      sum-le (λ q. bit (ltb 0 (r q))) (λ q. first q p) n (λ q h. go q (dec_le (r q) 0))
    where
      go : (q : ℕ) → Dec (r q ≤ 0) → bit (ltb 0 (r q)) ≤ first q p
      go q (yes k) = omega (arith, bit-false (le-ltb 0 (r q) k))
      go q (no k) =
          omega (arith, bit-most (ltb 0 (r q)), yes-first q p (inl (omega arith)))
