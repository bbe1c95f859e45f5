-- Sums over the numbers below n.
use Prim.Native.Nat.{ℕ, zero, suc, ◌+◌, ◌*◌, ◌≤◌, ◌<◌}
use mathlib.Core.Path.{◌≡◌, refl, ap, ◌∙◌}
use mathlib.Core.List.{List}
use mathlib.Core.Bool.{Bool, true, false}
use native.Mathlib.Numerals.{add-one}
use native.Mathlib.Decide.{ℕ_discrete, dec_le}
use native.Mathlib.Omega.{arith}
use borrow.Author.Tests.{lt-ltb, le-ltb, eq-eqb, ne_eqb}
use lib.Dec.{ltb, eqb}
use mir.Val.{bool_byte}
use lib.ListN.{length, get_or, take}
use Rattle.std.specs.List.{sum_by}
use Rattle.std.proofs.lemmas.List.Sums.{sum_by_more}
use Rattle.hub.specs.Basics.{bit}
use Rattle.billing.specs.Counting.{sum, count_below}

pub bit-most : (b : Bool) → bit b ≤ 1
bit-most true = omega arith
bit-most false = omega arith

-- A test as a number, in std's words.
pub bit-of : (b : Bool) → bool_byte b ≡ bit b
bit-of true = refl
bit-of false = refl

pub bit-true : {b : Bool} → b ≡ true → bit b ≡ 1
bit-true e = ap bit e

pub bit-false : {b : Bool} → b ≡ false → bit b ≡ 0
bit-false e = ap bit e

pub sum-le : (f g : ℕ → ℕ) (n : ℕ) → ((i : ℕ) → i < n → f i ≤ g i) → sum f n ≤ sum g n
unfolding sum
sum-le f g zero e = omega arith
sum-le f g (suc n) e = omega (arith, e n (omega arith), sum-le f g n (λ i h. e i (omega arith)))

-- Less at one number, and nowhere more.
pub sum_lt : (f g : ℕ → ℕ) (j n : ℕ) → j < n → f j < g j → ((i : ℕ) → i < n → f i ≤ g i)
    → sum f n < sum g n
unfolding sum
sum_lt f g j zero h k e = omega arith
sum_lt f g j (suc n) h k e =
    go (ℕ_discrete j n) (λ i. sum_lt f g j n i k (λ i h. e i (omega arith)))
  where
    go : Dec (j ≡ n) → (j < n → sum f n < sum g n) → sum f n + f n < sum g n + g n
    go (yes z) i = omega (arith, ap f z, ap g z, sum-le f g n (λ i h. e i (omega arith)))
    go (no z) i = omega (arith, i (omega arith), e n (omega arith))

pub sum_same : (f g : ℕ → ℕ) (n : ℕ) → ((i : ℕ) → i < n → f i ≡ g i) → sum f n ≡ sum g n
sum_same f g n e =
    omega (arith, sum-le f g n (λ i h. omega (arith, e i h)), sum-le g f n (λ i h. omega (arith, e i h)))

pub sum-add : (f g : ℕ → ℕ) (n : ℕ) → sum (λ i. f i + g i) n ≡ sum f n + sum g n
unfolding sum
sum-add f g zero = refl
sum-add f g (suc n) = omega (arith, sum-add f g n)

pub sum-mul : (a : ℕ) (f : ℕ → ℕ) (n : ℕ) → sum (λ i. a * f i) n ≡ a * sum f n
unfolding sum
sum-mul a f zero = omega arith
sum-mul a f (suc n) = omega (arith, sum-mul a f n)

pub sum-const : (a n : ℕ) → sum (λ i. a) n ≡ a * n
unfolding sum
sum-const a zero = omega arith
sum-const a (suc n) = omega (arith, sum-const a n)

-- One number more, as the code has it.
pub sum-next : (f : ℕ → ℕ) (n : ℕ) → sum f (n + 1) ≡ sum f n + f n
unfolding sum
sum-next f n = rw add-one

-- The sum of the first n of a list.
pub sum-taken : (l : List ℕ) (n : ℕ) → n ≤ length l → sum_by (λ x. x) (take n l) ≡ sum (λ p. get_or l p 0) n
unfolding sum
sum-taken l zero h = refl
sum-taken l (suc n) h =
    let e : suc n ≡ n + 1 = omega arith in
    ap (λ (k : ℕ). sum_by (λ x. x) (take k l)) e
    ∙ sum_by_more (λ x. x) l n 0 (omega arith)
    ∙ ap (λ (s : ℕ). s + get_or l n 0) (sum-taken l n (omega arith))

-- A part of a sum.
pub sum-part : (f : ℕ → ℕ) {m : ℕ} (n : ℕ) → m ≤ n → sum f m ≤ sum f n
unfolding sum
sum-part f {m} zero h = let e : m ≡ 0 = omega arith in rw e (omega arith)
sum-part f {m} (suc n) h = go (dec_le m n) (sum-part f n)
  where
    go : Dec (m ≤ n) → (m ≤ n → sum f m ≤ sum f n) → sum f m ≤ sum f n + f n
    go (yes k) i = omega (arith, i k)
    go (no k) i = let e : m ≡ suc n = omega arith in rw e (omega arith)

-- One number more, in front.
pub sum-front : (f : ℕ → ℕ) (n : ℕ) → sum f (suc n) ≡ f 0 + sum (λ i. f (suc i)) n
unfolding sum
sum-front f zero = omega arith
sum-front f (suc n) = omega (arith, sum-front f n)

pub count_most : (f : ℕ → Bool) (n : ℕ) → count_below f n ≤ n
count_most f n =
    omega (arith, sum-le (λ i. bit (f i)) (λ i. 1) n (λ i h. bit-most (f i)), sum-const 1 n)

-- A number is once below n, or not at all.
pub count-one : (r n : ℕ) → count_below (eqb r) n ≡ bit (ltb r n)
unfolding sum
count-one r zero = omega (arith, bit-false (le-ltb r 0 (omega arith)))
count-one r (suc n) = go (ℕ_discrete r n) (dec_le n r) (count-one r n)
  where
    go : Dec (r ≡ n) → Dec (n ≤ r) → count_below (eqb r) n ≡ bit (ltb r n)
        → count_below (eqb r) n + bit (eqb r n) ≡ bit (ltb r (suc n))
    go (yes e) d i =
        omega (
          arith,
          bit-true (eq-eqb r n e),
          bit-false (le-ltb r n (omega arith)),
          bit-true (lt-ltb r (suc n) (omega arith)),
        )
    go (no e) (yes h) i =
        omega (
          arith,
          bit-false (ne_eqb r n e),
          bit-false (le-ltb r n h),
          bit-false (le-ltb r (suc n) (omega arith)),
        )
    go (no e) (no h) i =
        omega (
          arith,
          bit-false (ne_eqb r n e),
          bit-true (lt-ltb r n (omega arith)),
          bit-true (lt-ltb r (suc n) (omega arith)),
        )
