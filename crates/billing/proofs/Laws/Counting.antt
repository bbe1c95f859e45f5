-- The lines counted one by one: after i of them the table has what these gave.
use Prim.Native.Nat.{ℕ, zero, suc, ◌+◌, ◌*◌, ◌≤◌, ◌<◌}
use mathlib.Core.Path.{◌≡◌, sym, ap, ◌∙◌}
use mathlib.Core.Bool.{true, cond}
use lib.Dec.{ltb}
use Rattle.std.specs.Prelude.{Option, Some, None}
use Rattle.std.proofs.lemmas.Bool.Decides.{nat_tests}
use mathlib.Core.List.{List, [], ◌∷◌}
use native.Mathlib.Omega.{arith}
use borrow.Author.Tests.{eq-eqb, ne_eqb}
use lib.ListN.{get_or, set, replicate, drop}
use Rattle.std.specs.Simd.{first_chunks}
use Rattle.std.proofs.lemmas.List.{get_or-take, get_or-drop}
use Rattle.hub.specs.Basics.{among, bit}
use Rattle.billing.specs.Counting.{sum, count_below, table, lines_in, code_at, party_at, woken_at}
use Rattle.billing.specs.Counting.{receiver_of, grants, grants_of}
use Rattle.billing.proofs.Laws.Sums.{bit-true, bit-false, sum-next, count_most}
use Rattle.billing.proofs.Laws.Tables.{table-get, table_same, table-set, table-zeros}

-- To whom a line gives a link.
module _ (c p w : ℕ) where
  pub to-party : among (0x21 ∷ 0x25 ∷ []) c ≡ true → receiver_of c p w ≡ p
  unfolding receiver_of
  to-party e = rw e

  pub to-woken : c ≡ 0x2A → receiver_of c p w ≡ w
  unfolding receiver_of
  to-woken e = rw e

  pub to-nobody : (c ≡ 0x21 → ⊥) → (c ≡ 0x25 → ⊥) → (c ≡ 0x2A → ⊥) → receiver_of c p w ≡ 0xFF
  unfolding receiver_of
  to-nobody i j k = rw (ne_eqb c 0x21 i, ne_eqb c 0x25 j, ne_eqb c 0x2A k)

-- The bytes of a line, where the lines are taken out as sevens.
pub in_line : (k i : ℕ) (l : List ℕ) (j : ℕ) → i < k → j < 7
    → get_or (get_or (first_chunks 7 k l) i []) j 0 ≡ get_or l (7 * i + j) 0
in_line zero i l j h q = absurd (omega arith)
in_line (suc k) zero l j h q =
    get_or-take 7 l j 0 q ∙ ap (λ (n : ℕ). get_or l n 0) (omega arith)
in_line (suc k) (suc i) l j h q =
    in_line k i (drop 7 l) j (omega arith) q
    ∙ get_or-drop 7 l (7 * i + j) 0
    ∙ ap (λ (n : ℕ). get_or l n 0) (omega arith)

pub line_is : (l : List ℕ) {whole : List (List ℕ)} (i : ℕ) → i < lines_in l
    → whole ≡ first_chunks 7 (lines_in l) l
    → receiver_of (get_or (get_or whole i []) 0 0) (get_or (get_or whole i []) 1 0) (get_or (get_or whole i []) 2 0)
    ≡ receiver_of (code_at l i) (party_at l i) (woken_at l i)
line_is l i h e =
    rw e
    (λ j. receiver_of (here j) (in_line (lines_in l) i l 1 h (omega arith) j)
    (in_line (lines_in l) i l 2 h (omega arith) j))
  where
    here : get_or (get_or (first_chunks 7 (lines_in l) l) i []) 0 0 ≡ code_at l i
    here = in_line (lines_in l) i l 0 h (omega arith) ∙ ap (λ (n : ℕ). get_or l n 0) (omega arith)

-- Who is counted: a party below 32.
pub counted_is : (r : ℕ) {o : Option ℕ} {p : ℕ} → o ≡ cond (ltb r 32) (Some r) None → o ≡ Some p
    → (p ≡ r) × (p < 32)
counted_is r = grind (arith, nat_tests)

pub uncounted : (r : ℕ) {o : Option ℕ} → o ≡ cond (ltb r 32) (Some r) None → o ≡ None → 32 ≤ r
uncounted r = grind (arith, nat_tests)

-- Whoever got a link, by i lines.
abbrev so_far : List ℕ → ℕ → ℕ → ℕ
so_far l i p = count_below (grants l p) i

pub record Counted (l : List ℕ) (i : ℕ) (a : List ℕ) : Type 0 where
  pub within : i ≤ lines_in l
  pub counts : a ≡ table 32 (so_far l i)

pub counted_none : (l : List ℕ) → Counted l 0 (replicate 32 0)
unfolding sum
counted_none l = record { within = omega arith; counts = table-zeros 32 }

pub counted-most : (l : List ℕ) (p : ℕ) → grants_of l p ≤ lines_in l
unfolding grants_of
counted-most l p = count_most (grants l p) (lines_in l)

module _ {l : List ℕ} {i : ℕ} {a : List ℕ} (c : Counted l i a) where
  pub counted-all : lines_in l ≤ i → a ≡ table 32 (grants_of l)
  unfolding grants_of
  counted-all h =
      let e : i ≡ lines_in l = omega (arith, c.within) in
      c.counts ∙ ap (λ (n : ℕ). table 32 (so_far l n)) e

  counted-at : (p : ℕ) → p < 32 → get_or a p 0 ≡ so_far l i p
  counted-at p h = ap (λ (b : List ℕ). get_or b p 0) c.counts ∙ table-get 32 (so_far l i) p h

  -- So many lines give no party more links.
  pub counted-room : (p : ℕ) → p < 32 → get_or a p 0 ≤ i
  counted-room p h = omega (arith, counted-at p h, count_most (grants l p) i)

  -- One line more.
  module _
      (h : i < lines_in l)
      {q : ℕ}
      (e : q ≡ receiver_of (code_at l i) (party_at l i) (woken_at l i))
    where
      other : (p : ℕ) → (q ≡ p → ⊥) → so_far l i p ≡ so_far l (i + 1) p
      unfolding grants
      other p n =
          omega (arith, sum-next (λ j. bit (grants l p j)) i, bit-false (ne_eqb _ p (λ z. n (e ∙ z))))

      pub counted-one : q < 32 → {b : List ℕ} → b ≡ set a q (get_or a q 0 + 1) → Counted l (i + 1) b
      unfolding grants
      counted-one k w =
          record {
            within = omega arith;
            counts =
                w
                ∙ ap (λ (b : List ℕ). set b q (get_or a q 0 + 1)) c.counts
                ∙ table-set 32 (so_far l i) (so_far l (i + 1)) q _ k
                (omega (
                  arith,
                  counted-at q k,
                  sum-next (λ j. bit (grants l q j)) i,
                  bit-true (eq-eqb _ q (sym e)),
                ))
                (λ p j n. other p (λ z. n (sym z)));
          }

      pub counted-other : 32 ≤ q → {b : List ℕ} → b ≡ a → Counted l (i + 1) b
      counted-other k w =
          record {
            within = omega arith;
            counts =
                w
                ∙ c.counts
                ∙ table_same 32 (so_far l i) (so_far l (i + 1)) (λ p j. other p (λ z. omega arith));
          }
