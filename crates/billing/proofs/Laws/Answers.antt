-- What is not refused may be billed, and C is given its shares.
use Prim.Native.Nat.{ℕ, ◌*◌, ◌≤◌, ◌<◌}
use mathlib.Core.Path.{◌≡◌, refl, ap, ◌∙◌}
use mathlib.Core.Bool.{Bool, true, false, cond, not, ◌||◌}
use mathlib.Core.List.{List}
use native.Mathlib.Omega.{arith}
use borrow.Author.Tests.{leb-true, eq-eqb}
use lib.Dec.{leb, ltb}
use lib.ListN.{length, get_or, take, length-take}
use Rattle.std.specs.Prelude.{Ok, Err}
use Rattle.std.proofs.lemmas.List.{get_or-take}
use Rattle.hub.specs.Basics.{up_to32}
use Rattle.hub.proofs.Laws.Bools.{first, second}
use Rattle.billing.specs.declared.Refusal.{Refusal}
use Rattle.billing.specs.Bill.{answer_to, terms_of, shares_due, in_bytes, bill_code, bill_bytes}
use Rattle.billing.specs.Counting.{lines_in, grants_of}
use Rattle.billing.specs.Sharing.{Billable, share}
use Rattle.billing.proofs.Laws.Bytes.{bytes_same}
use Rattle.billing.proofs.Laws.Counting.{counted-most}
use Rattle.billing.proofs.Laws.Tables.{length-table, table-get, up-to-get}

-- 1 to 32.
in-range : (n : ℕ) → up_to32 n ≡ true → (1 ≤ n) × (n ≤ 32)
in-range n e = (leb-true 1 n (first (leb 1 n) _ e), leb-true n 32 (second (leb 1 n) _ e))

module _ (n fee : ℕ) (l : List ℕ) where
  pub billable : up_to32 n ≡ true → fee ≤ 1000000 → lines_in l ≤ 100000000 → Billable (terms_of n fee l)
  billable e f h =
      record {
        some = (in-range n e).0;
        parties = (in-range n e).1;
        fee = f;
        grants = λ p k. omega (arith, table-get 32 (grants_of l) p k, counted-most l p);
      }

  -- What is billed are the shares.
  billed : {s : List ℕ} → answer_to n fee l ≡ Ok s → (s ≡ shares_due n fee l) × (n ≤ 32)
  unfolding answer_to
  billed {s} = go (up_to32 n) (in-range n) (ltb 1000000 fee || ltb 100000000 (lines_in l))
    where
      go : (a : Bool) → (a ≡ true → (1 ≤ n) × (n ≤ 32)) → (b : Bool)
          → cond (not a) (Err Refusal.BadParties) (cond b (Err Refusal.TooMuch) (Ok (shares_due n fee l))) ≡ Ok s
          → (s ≡ shares_due n fee l) × (n ≤ 32)
      go true i true e = cc
      go true i false e = (cc, (i refl).1)
      go false i b e = cc

  pub written : (out : List ℕ) {s : List ℕ} → answer_to n fee l ≡ Ok s → {new : List ℕ} → length out ≡ 4 * n
      → new ≡ in_bytes (λ p. get_or (take n s) p 0) (length (take n s))
      → (0 ≡ bill_code n fee l out) × (new ≡ bill_bytes n fee l out)
  unfolding bill_code bill_bytes
  written out {s} e {new} z w =
      rw (e, eq-eqb _ _ z) (
        refl,
        w
            ∙ ap (in_bytes (λ p. get_or (take n s) p 0)) size
            ∙ bytes_same (λ p. get_or (take n s) p 0) (share (terms_of n fee l)) n at,
      )
    where
      is : s ≡ shares_due n fee l
      is = (billed e).0

      size : length (take n s) ≡ n
      size =
          omega (
            arith,
            length-take n s,
            ap length is,
            length-table 32 (λ p. cond (ltb p n) (share (terms_of n fee l) p) 0),
            (billed e).1,
          )

      at : (p : ℕ) → p < n → get_or (take n s) p 0 ≡ share (terms_of n fee l) p
      at p h =
          get_or-take n s p 0 h
          ∙ ap (λ (m : List ℕ). get_or m p 0) is
          ∙ up-to-get n (share (terms_of n fee l)) p h (omega (arith, (billed e).1))
