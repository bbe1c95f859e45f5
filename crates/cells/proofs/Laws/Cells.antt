-- A buffer filled part by part.
use Prim.Native.Nat.{ℕ, ◌+◌, ◌-◌, ◌*◌, ◌≤◌, ◌<◌}
use mathlib.Core.Path.{◌≡◌, refl, sym, ap, ◌∙◌}
use mathlib.Core.List.{List, [], ◌∷◌, ◌++◌, append_assoc, append-nil}
use native.Mathlib.Numerals.{add-one}
use native.Mathlib.Omega.{arith}
use borrow.Rule.Slice.PartMut.{put_mid}
use lib.ListN.{length, get_or, take, drop, length-append, length-drop}
use lib.Seq.{length-take-le, take_all, take_at, take-suc}
use Rattle.encoding.proofs.Laws.Parts.{put-length, put-take}
use Rattle.cells.specs.Bytes.{bytes_of_all, with_bytes}

-- The first `at` bytes of a buffer of so many hold what was written.
pub record Written (size : ℕ) (out : List ℕ) (at : ℕ) (bytes : List ℕ) : Type 0 where
  pub long : length out ≡ size
  pub done : take at out ≡ bytes

module _ (size : ℕ) (out : List ℕ) where
  pub nothing : length out ≡ size → Written size out 0 []
  nothing e = record { long = e; done = refl }

  -- Bytes b come next, which are what is said of them.
  pub next : (at k : ℕ) (bytes b said after : List ℕ) → Written size out at bytes → at + k ≤ size
      → b ≡ said → length b ≡ k → after ≡ with_bytes out at b → Written size after (at + k) (bytes ++ said)
  next at k bytes b said after u h e n p =
      record {
        long =
            ap length p
            ∙ simp (length-append, length-drop)
            (omega (arith, n, u.long, length-take-le at out (omega (arith, u.long))));
        done =
            ap (take (at + k)) p
            ∙ take_at _ (drop (at + length b) out) (at + k) before
            ∙ (λ j. u.done j ++ e j);
      }
    where
      before : length (take at out ++ b) ≡ at + k
      before =
          simp length-append (omega (arith, n, u.long, length-take-le at out (omega (arith, u.long))))

  pub all-written : (at : ℕ) (bytes : List ℕ) → Written size out at bytes → size ≤ at → out ≡ bytes
  all-written at bytes u h = sym (take_all at out (omega (arith, u.long))) ∙ u.done

-- Six parts, one after another.
pub six : (a b c d e f : List ℕ) → ((((([] ++ a) ++ b) ++ c) ++ d) ++ e) ++ f ≡ a ++ b ++ c ++ d ++ e ++ f
six a b c d e f = simp append_assoc

module _ {A : Type 0} (f : A → List ℕ) where
  all_append : (l m : List A) → bytes_of_all f (l ++ m) ≡ bytes_of_all f l ++ bytes_of_all f m
  unfolding bytes_of_all
  all_append [] m = refl
  all_append (x ∷ l) m =
      ap (λ (r : List ℕ). f x ++ r) (all_append l m)
      ∙ sym (append_assoc (f x) (bytes_of_all f l) (bytes_of_all f m))

  all_one : (x : A) → bytes_of_all f (x ∷ []) ≡ f x
  unfolding bytes_of_all
  all_one x = append-nil (f x)

-- The cells of the first i of n elements are written.
pub record Celled {A : Type 0} (f : A → List ℕ) (l : List A) (n : ℕ) (out : List ℕ) (i : ℕ) : Type 0 where
  pub size : length l ≡ n
  pub within : i ≤ n
  pub long : length out ≡ 5 * n
  pub done : take (5 * i) out ≡ bytes_of_all f (take i l)

module _ {A : Type 0} (f : A → List ℕ) (l : List A) (n : ℕ) (out : List ℕ) where
  pub no_cell : length l ≡ n → length out ≡ 5 * n → Celled f l n out 0
  unfolding bytes_of_all
  no_cell k e = record { size = k; within = omega arith; long = e; done = refl }

  pub cell-more : (i : ℕ) (d : A) (part : List ℕ) → Celled f l n out i → i < n
      → part ≡ f (get_or l i d) → length part ≡ 5
      → Celled f l n (put_mid (5 * i) (5 * i + 5 - 5 * i) out part) (i + 1)
  cell-more i d part u h e s =
      record {
        size = u.size;
        within = omega arith;
        long = put-length out part (5 * i) 5 (omega (arith, u.long)) s ∙ u.long;
        done =
            ap (λ (m : ℕ). take m (put_mid (5 * i) (5 * i + 5 - 5 * i) out part)) (five i)
            ∙ put-take out part (5 * i) 5 (omega (arith, u.long)) s
            ∙ (λ j. u.done j ++ (e ∙ sym (all_one f (get_or l i d))) j)
            ∙ sym (all_append f (take i l) (get_or l i d ∷ []))
            ∙ ap (bytes_of_all f) (sym (take-suc l i d (omega (arith, u.size))))
            ∙ ap (λ (m : ℕ). bytes_of_all f (take m l)) (sym (add-one i));
      }
    where
      five : (m : ℕ) → 5 * (m + 1) ≡ 5 * m + 5
      five m = omega arith

  pub all-cells : (i : ℕ) → Celled f l n out i → n ≤ i → out ≡ bytes_of_all f l
  all-cells i u h =
      sym (take_all (5 * i) out (omega (arith, u.long)))
      ∙ u.done
      ∙ ap (bytes_of_all f) (take_all i l (omega (arith, u.size)))
