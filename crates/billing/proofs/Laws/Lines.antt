-- What is counted over lines in bytes is counted over the replies that they are.
use Prim.Native.Nat.{ℕ, zero, suc, ◌+◌, ◌*◌, ◌%◌}
use mathlib.Core.Path.{◌≡◌, refl, ap, ◌∙◌}
use mathlib.Core.List.{List, [], ◌∷◌}
use native.Mathlib.Omega.{arith}
use lib.Dec.{eqb, ltb}
use lib.ListN.{get_or}
use Rattle.hub.specs.Basics.{bit, weight}
use Rattle.encoding.specs.Form.{as_bytes}
use Rattle.line.specs.Program.{Reply, rendered}
use Rattle.billing.specs.Counting.{sum, lines_in, code_at, party_at, woken_at, receiver_of, grants}
use Rattle.billing.specs.Counting.{grants_of}
use Rattle.billing.specs.Promises.{is_return, returns}
use Rattle.billing.proofs.Laws.Sums.{sum_same, sum-add, sum-const, sum-front, count-one}

-- Two sums in either order.
sum-swap : (f : ℕ → ℕ → ℕ) (n m : ℕ)
    → sum (λ p. sum (f p) m) n ≡ sum (λ i. sum (λ p. f p i) n) m
unfolding sum
sum-swap f zero m = omega (arith, sum-const 0 m)
sum-swap f (suc n) m =
    omega (arith, sum-swap f n m, sum-add (λ i. sum (λ p. f p i) n) (f n) m)

-- The sum of what each line is worth, by its code, its party and its woken party.
module _ (worth : ℕ → ℕ → ℕ → ℕ) where
  abbrev pub tally : List ℕ → ℕ
  tally l = sum (λ i. worth (code_at l i) (party_at l i) (woken_at l i)) (lines_in l)

  -- One line more, in front.
  module _ (c p w x y z v : ℕ) (l : List ℕ) where
    abbrev m : List ℕ
    m = c ∷ p ∷ w ∷ x ∷ y ∷ z ∷ v ∷ l

    size : lines_in m ≡ suc (lines_in l)
    size = omega arith

    past : (a b : ℕ) → a ≡ 7 + b → get_or m a 0 ≡ get_or l b 0
    past a b e =
        let f : a ≡ suc (suc (suc (suc (suc (suc (suc b)))))) = omega arith in
        ap (λ (k : ℕ). get_or m k 0) f

    tally-line : tally m ≡ worth c p w + tally l
    tally-line =
        ap (sum (λ i. worth (code_at m i) (party_at m i) (woken_at m i))) size
        ∙ sum-front (λ i. worth (code_at m i) (party_at m i) (woken_at m i)) (lines_in l)
        ∙ ap (λ (n : ℕ). worth c p w + n)
        (sum_same (λ i. worth (code_at m (suc i)) (party_at m (suc i)) (woken_at m (suc i)))
        (λ i. worth (code_at l i) (party_at l i) (woken_at l i)) (lines_in l)
        (λ i h. (λ j. worth (past (7 * suc i) (7 * i) (omega arith) j)
        (past (7 * suc i + 1) (7 * i + 1) (omega arith) j)
        (past (7 * suc i + 2) (7 * i + 2) (omega arith) j))))

  abbrev pub worth_of : Reply → ℕ
  worth_of r = worth r.answer.code r.party (r.answer.woken % 256)

  pub tally-replies : (rs : List Reply) → tally (rendered as_bytes rs) ≡ weight worth_of rs
  unfolding rendered weight sum
  tally-replies [] = refl
  tally-replies (r ∷ rs) =
      tally-line _ _ _ _ _ _ _ (rendered as_bytes rs)
      ∙ ap (λ (n : ℕ). worth_of r + n) (tally-replies rs)

-- What a line is worth in the two counts.
abbrev pub granting : ℕ → ℕ → ℕ → ℕ → ℕ
granting n c p w = bit (ltb (receiver_of c p w) n)

abbrev pub returning : ℕ → ℕ → ℕ → ℕ
returning c p w = bit (is_return c)

pub grants-tally : (n : ℕ) (l : List ℕ) → sum (grants_of l) n ≡ tally (granting n) l
unfolding grants_of grants
grants-tally n l =
    sum-swap (λ p i. bit (eqb (receiver_of (code_at l i) (party_at l i) (woken_at l i)) p)) n (lines_in l)
    ∙ sum_same _ _ (lines_in l)
    (λ i h. count-one (receiver_of (code_at l i) (party_at l i) (woken_at l i)) n)

pub returns-tally : (l : List ℕ) → returns l ≡ tally returning l
unfolding returns
returns-tally l = refl
