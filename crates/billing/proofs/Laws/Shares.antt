-- Why every bill is fair. The exact portions add up to the fee, so that what remains of them, taken
-- together, is the cents left over times the whole: these are no more than the parties that have a
-- remainder, so that each goes to one of those, and all of them go.
use Prim.Native.Nat.{ℕ, ◌+◌, ◌*◌, ◌-◌, ◌≤◌, ◌<◌}
use mathlib.Core.Path.{◌≡◌, sym, ap, ◌∙◌}
use mathlib.Core.Bool.{Bool, true, false}
use mathlib.Core.List.{List}
use native.Mathlib.Decide.{ℕ_discrete, dec_le}
use native.Mathlib.Nat.{div-add-mod', mod-lt, le_of_mul-le-mul_left, mul-le-mul}
use native.Mathlib.Omega.{arith}
use borrow.Author.Tests.{lt-ltb, le-ltb, eq-eqb, ne_eqb}
use lib.Dec.{ltb}
use lib.ListN.{length, get_or, set, take, replicate, length-set, length-replicate, length-take}
use Rattle.std.proofs.lemmas.List.{get_or-take}
use lib.Seq.{get_or-set_same, get_or-set_other}
use Rattle.hub.specs.Basics.{bit}
use Rattle.billing.specs.declared.Portion.{Portion}
use Rattle.billing.specs.declared.Terms.{Terms}
use Rattle.billing.specs.Counting.{sum}
use Rattle.billing.specs.Portions.{nothing, cents_at, remainder_at}
use Rattle.billing.specs.Promises.{EveryBill}
use Rattle.billing.specs.Sharing.{granted, weighed, weight, whole, rounded_down, remainder}
use Rattle.billing.specs.Sharing.{left_over, precedes, rank, share, Billable}
use Rattle.billing.proofs.Laws.Ranks.{places, remains, rank-none}
use Rattle.billing.proofs.Laws.Sums.{bit-false, sum-le, sum_same, sum-add}
use Rattle.billing.proofs.Laws.Sums.{sum-mul, sum-const, sum-part, sum-next, count_most}

pub weighed-none : (all links : ℕ) → all ≡ 0 → weighed all links ≡ 1
unfolding weighed
weighed-none all links e = rw (eq-eqb all 0 e)

pub weighed-some : (all links : ℕ) → (all ≡ 0 → ⊥) → weighed all links ≡ links
unfolding weighed
weighed-some all links e = rw (ne_eqb all 0 e)

module _ (t : Terms) where
  abbrev all : ℕ
  all = sum (granted t) t.parties

  -- The whole is the number of parties, or of links.
  pub whole-none : all ≡ 0 → whole t ≡ t.parties
  whole-none e =
      omega (
        arith,
        sum_same (weight t) (λ p. 1) t.parties (λ p h. weighed-none all (granted t p) e),
        sum-const 1 t.parties,
      )

  pub whole-some : (all ≡ 0 → ⊥) → whole t ≡ all
  whole-some e = sum_same (weight t) (granted t) t.parties (λ p h. weighed-some all (granted t p) e)

  module _ (s : 1 ≤ t.parties) where
    pub whole_pos : 0 < whole t
    whole_pos = go (ℕ_discrete all 0)
      where
        go : Dec (all ≡ 0) → 0 < whole t
        go (yes e) = omega (arith, whole-none e)
        go (no e) = omega (arith, whole-some e)

    portion : (p : ℕ) → whole t * rounded_down t p + remainder t p ≡ t.fee * weight t p
    portion p = omega (arith, div-add-mod' (t.fee * weight t p) (whole t))

    part : (p : ℕ) → remainder t p < whole t
    part p = mod-lt (t.fee * weight t p) whole_pos

    abbrev down : ℕ → ℕ
    down k = sum (rounded_down t) k

    portions : whole t * down t.parties + sum (remainder t) t.parties ≡ whole t * t.fee
    portions =
        omega (
          arith,
          sum-mul (whole t) (rounded_down t) t.parties,
          sum-add (λ p. whole t * rounded_down t p) (remainder t) t.parties,
          sum_same (λ p. whole t * rounded_down t p + remainder t p) (λ p. t.fee * weight t p)
              t.parties (λ p h. portion p),
          sum-mul t.fee (weight t) t.parties,
        )

    -- The portions of some parties, rounded down, are within the fee.
    pub down-most : (k : ℕ) → k ≤ t.parties → down k ≤ t.fee
    down-most k h =
        omega (
          arith,
          sum-part (rounded_down t) t.parties h,
          le_of_mul-le-mul_left (within portions) whole_pos,
        )
      where
        within : whole t * down t.parties + sum (remainder t) t.parties ≡ whole t * t.fee
            → whole t * down t.parties ≤ whole t * t.fee
        within e = omega arith

    -- The cents left over are no more than the parties that have a remainder.
    left-most : left_over t ≤ remains (remainder t) t.parties
    left-most = le_of_mul-le-mul_left within whole_pos
      where
        one : (p : ℕ) → Dec (remainder t p ≤ 0)
            → remainder t p ≤ whole t * bit (ltb 0 (remainder t p))
        one p (yes k) = omega (arith, bit-false (le-ltb 0 (remainder t p) k))
        one p (no k) = rw (lt-ltb 0 (remainder t p) (omega arith)) (omega (arith, part p))

        within : whole t * left_over t ≤ whole t * remains (remainder t) t.parties
        within =
            split (whole t) (down t.parties) t.fee _ _ _ (down-most t.parties (omega arith))
            portions
            (sum-le (remainder t) (λ p. whole t * bit (ltb 0 (remainder t p))) t.parties
            (λ p h. one p (dec_le (remainder t p) 0)))
            (sum-mul (whole t) (λ p. bit (ltb 0 (remainder t p))) t.parties)
          where
            split : (w d f m b c : ℕ) → d ≤ f → w * d + m ≡ w * f → m ≤ b → b ≡ w * c
                → w * (f - d) ≤ w * c
            split w d f m b c h e i j =
                let x : f ≡ d + (f - d) = omega arith in
                let y : w * f ≡ w * d + w * (f - d) = ap (λ (z : ℕ). w * z) x ∙ omega arith in
                omega arith

    abbrev extra : ℕ → ℕ
    extra p = bit (ltb (rank (remainder t) t.parties p) (left_over t))

    -- A cent more goes to a party only if it has a remainder.
    only-remains : (p : ℕ) → remainder t p ≡ 0 → extra p ≡ 0
    only-remains p e =
        bit-false
        (le-ltb (rank (remainder t) t.parties p) (left_over t)
        (omega (arith, rank-none (remainder t) t.parties p e, left-most)))

    shares-exact : sum (share t) t.parties ≡ t.fee
    unfolding share
    shares-exact =
        omega (
          arith,
          sum-add (rounded_down t) extra t.parties,
          places (remainder t) t.parties (left_over t)
              (omega (arith, left-most, count_most (λ q. ltb 0 (remainder t q)) t.parties)),
          down-most t.parties (omega arith),
        )

-- Of a whole w, d cents and what remains, m, are the exact portion x.
share-below : (w d m x c : ℕ) → w * d + m ≡ x → m < w → x < (d + c) * w + w
share-below w d m x c e h = omega arith

share-above : (w d m x : ℕ) (b : Bool) → w * d + m ≡ x → m < w → (m ≡ 0 → bit b ≡ 0)
    → (d + bit b) * w < x + w
share-above w d m x false e h z = omega arith
share-above w d m x true e h z = go (ℕ_discrete m 0)
  where
    go : Dec (m ≡ 0) → (d + 1) * w < x + w
    go (yes k) = absurd (omega (arith, z k))
    go (no k) = omega arith

pub every-bill : EveryBill
unfolding share
every-bill t s =
    record {
      exact = shares-exact t s;
      below = λ p h.
          share-below (whole t) (rounded_down t p) (remainder t p) _ _ (portion t s p) (part t s p);
      above = λ p h.
          share-above (whole t) (rounded_down t p) (remainder t p) _
          (ltb (rank (remainder t) t.parties p) (left_over t)) (portion t s p) (part t s p)
          (only-remains t s p);
    }

-- The portions of the first p parties are worked out, and what is left of the fee.
pub record Divided (t : Terms) (each : List Portion) (x p : ℕ) : Type 0 where
  pub size : length each ≡ 32
  pub within : p ≤ t.parties
  pub cents : (q : ℕ) → q < p → cents_at each q ≡ rounded_down t q
  pub remainders : (q : ℕ) → q < p → remainder_at each q ≡ remainder t q
  pub left : x + sum (rounded_down t) p ≡ t.fee

pub divided-none : (t : Terms) → Divided t (replicate 32 nothing) t.fee 0
unfolding sum
divided-none t =
    record {
      size = length-replicate 32 nothing;
      within = omega arith;
      cents = λ q h. absurd (omega arith);
      remainders = λ q h. absurd (omega arith);
      left = omega arith;
    }

module _ {t : Terms} (b : Billable t) where
  pub weight-most : (p : ℕ) → p < 32 → weight t p ≤ 100000000
  weight-most p h = go (ℕ_discrete (all t) 0)
    where
      go : Dec (all t ≡ 0) → weight t p ≤ 100000000
      go (yes e) = omega (arith, weighed-none (all t) (granted t p) e)
      go (no e) = omega (arith, weighed-some (all t) (granted t p) e, b.grants p h)

  pub total-most : sum (granted t) t.parties ≤ 3200000000
  total-most =
      omega (
        arith,
        sum-le (granted t) (λ p. 100000000) t.parties (λ p h. b.grants p (omega (arith, b.parties))),
        sum-const 100000000 t.parties,
        b.parties,
      )

  pub whole-most : whole t ≤ 3200000000
  whole-most =
      omega (
        arith,
        sum-le (weight t) (λ p. 100000000) t.parties (λ p h. weight-most p (omega (arith, b.parties))),
        sum-const 100000000 t.parties,
        b.parties,
      )

  pub remainder-most : (p : ℕ) → remainder t p < 3200000000
  remainder-most p = omega (arith, mod-lt (t.fee * weight t p) (whole_pos t b.some), whole-most)

  -- An exact portion times the whole is small.
  pub exact-most : (p : ℕ) → p < 32 → t.fee * weight t p ≤ 100000000000000
  exact-most p h = omega (arith, mul-le-mul b.fee (weight-most p h))

  module _ {each : List Portion} {left p : ℕ} (d : Divided t each left p) where
    pub next-within : p < t.parties → rounded_down t p ≤ left
    next-within h =
        omega (
          arith,
          d.left,
          sum-next (rounded_down t) p,
          down-most t b.some (p + 1) (omega arith),
        )

    -- One portion more.
    laid : (x : Portion) (read : Portion → ℕ) (f : ℕ → ℕ) → p < t.parties → read x ≡ f p
        → ((q : ℕ) → q < p → read (get_or each q nothing) ≡ f q)
        → (q : ℕ) → q < p + 1 → read (get_or (set each p x) q nothing) ≡ f q
    laid x read f h e old q k = go (ℕ_discrete p q)
      where
        go : Dec (p ≡ q) → read (get_or (set each p x) q nothing) ≡ f q
        go (yes z) =
            ap (λ (n : ℕ). read (get_or (set each p x) n nothing)) (sym z)
            ∙ ap read (get_or-set_same each p x nothing (omega (arith, d.size, b.parties)))
            ∙ e ∙ ap f z
        go (no z) = ap read (get_or-set_other each p q x nothing (λ y. z (sym y))) ∙ old q (omega arith)

    pub divided-next : p < t.parties → {v w : ℕ} → v ≡ rounded_down t p → w ≡ remainder t p
        → Divided t (set each p (record { cents = v; remainder = w })) (left - v) (p + 1)
    divided-next h {v} {w} i j =
        let x : Portion = record { cents = v; remainder = w } in
        record {
          size = length-set each p x ∙ d.size;
          within = omega arith;
          cents = laid x (λ q. q.cents) (rounded_down t) h i d.cents;
          remainders = laid x (λ q. q.remainder) (remainder t) h j d.remainders;
          left = omega (arith, d.left, sum-next (rounded_down t) p, next-within h);
        }

rank_same : (r s : ℕ → ℕ) (n p : ℕ) → ((q : ℕ) → q < n → r q ≡ s q) → p < n → rank r n p ≡ rank s n p
unfolding rank
rank_same r s n p e h =
    sum_same (λ q. bit (precedes (r q) q (r p) p)) (λ q. bit (precedes (s q) q (s p) p)) n
    (λ q k. (λ i. bit (precedes (e q k i) q (e p h i) p)))

-- A share as the code works it out, from the portions of all parties.
abbrev pub handed : List Portion → ℕ → ℕ → ℕ
handed portions left p =
    cents_at portions p + bit (ltb (rank (remainder_at portions) (length portions) p) left)

module _
    {t : Terms}
    (b : Billable t)
    (each : List Portion)
    (long : t.parties ≤ length each)
    (c : (p : ℕ) → p < t.parties → cents_at each p ≡ rounded_down t p)
  where
    portion-cents : (p : ℕ) → p < t.parties → cents_at (take t.parties each) p ≡ rounded_down t p
    portion-cents p h = ap (λ (x : Portion). x.cents) (get_or-take t.parties each p nothing h) ∙ c p h

    pub cents-most : (p : ℕ) → p < t.parties → cents_at (take t.parties each) p ≤ 1000000
    cents-most p h =
        omega (
          arith,
          portion-cents p h,
          sum-next (rounded_down t) p,
          down-most t b.some (p + 1) (omega arith),
          b.fee,
        )

    pub handed-shares : ((p : ℕ) → p < t.parties → remainder_at each p ≡ remainder t p)
        → {left : ℕ} → left ≡ left_over t
        → (p : ℕ) → p < t.parties → handed (take t.parties each) left p ≡ share t p
    unfolding share
    handed-shares r e p h = (λ i. portion-cents p h i + bit (ltb (ranked i) (e i)))
      where
        size : length (take t.parties each) ≡ t.parties
        size = omega (arith, length-take t.parties each)

        left-of : (q : ℕ) → q < t.parties → remainder_at (take t.parties each) q ≡ remainder t q
        left-of q k = ap (λ (x : Portion). x.remainder) (get_or-take t.parties each q nothing k) ∙ r q k

        ranked : rank (remainder_at (take t.parties each)) (length (take t.parties each)) p
            ≡ rank (remainder t) t.parties p
        ranked =
            ap (λ (n : ℕ). rank (remainder_at (take t.parties each)) n p) size
            ∙ rank_same (remainder_at (take t.parties each)) (remainder t) t.parties p left-of h
