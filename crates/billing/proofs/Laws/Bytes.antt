-- Shares in bytes, four bytes each.
use Prim.Native.Nat.{ℕ, zero, suc, ◌+◌, ◌*◌, ◌≤◌, ◌<◌}
use mathlib.Core.Path.{◌≡◌, refl, sym, ap, ◌∙◌}
use mathlib.Core.List.{List, ◌++◌, append-nil}
use native.Mathlib.Omega.{arith}
use lib.ListN.{length, take, drop, length-append, length-drop, drop_of_length-le}
use lib.Seq.{take_at, drop-append-add, drop-drop}
use native.Mathlib.Numerals.{add-one}
use Rattle.billing.specs.Bill.{four_bytes, written_at, in_bytes}

pub length-bytes : (f : ℕ → ℕ) (n : ℕ) → length (in_bytes f n) ≡ 4 * n
unfolding in_bytes
length-bytes f zero = refl
length-bytes f (suc n) = simp length-append (omega (arith, length-bytes f n))

pub bytes_same : (f g : ℕ → ℕ) (n : ℕ) → ((p : ℕ) → p < n → f p ≡ g p) → in_bytes f n ≡ in_bytes g n
unfolding in_bytes
bytes_same f g zero e = refl
bytes_same f g (suc n) e =
    (λ i. bytes_same f g n (λ p h. e p (omega arith)) i ++ four_bytes (e n (omega arith) i))

-- The first p shares are written, and the rest of the buffer is as it was.
pub record Written (f : ℕ → ℕ) (n : ℕ) (old out : List ℕ) (p : ℕ) : Type 0 where
  pub within : p ≤ n
  pub bytes : out ≡ in_bytes f p ++ drop (4 * p) old

pub written_none : (f : ℕ → ℕ) (n : ℕ) (old : List ℕ) → Written f n old old 0
unfolding in_bytes
written_none f n old = record { within = omega arith; bytes = refl }

module _
    {f : ℕ → ℕ}
    {n : ℕ}
    {old out : List ℕ}
    {p : ℕ}
    (size : length old ≡ 4 * n)
    (w : Written f n old out p)
  where
    pub written_all : n ≤ p → out ≡ in_bytes f n
    written_all h =
        let e : p ≡ n = omega (arith, w.within) in
        w.bytes
        ∙ ap (λ (k : ℕ). in_bytes f k ++ drop (4 * k) old) e
        ∙ ap (λ (l : List ℕ). in_bytes f n ++ l) (drop_of_length-le old {i = 4 * n} (omega arith))
        ∙ append-nil (in_bytes f n)

    pub written-size : length out ≡ 4 * n
    written-size =
        omega (
          arith,
          ap length w.bytes,
          length-append (in_bytes f p) (drop (4 * p) old),
          length-bytes f p,
          length-drop (4 * p) old,
          w.within,
        )

    pub written_next : p < n → {new : List ℕ} → new ≡ written_at (4 * p) out (f p)
        → Written f n old new (p + 1)
    unfolding in_bytes
    written_next h {new} e =
        record {
          within = omega arith;
          bytes =
              e
              ∙ (λ i. take (4 * p) (w.bytes i) ++ four_bytes (f p) ++ drop (4 * p + 4) (w.bytes i))
              ∙ (λ i. front i ++ four_bytes (f p) ++ back i)
              ∙ ap (λ (q : ℕ). in_bytes f q ++ drop (4 * (p + 1)) old) (sym (add-one p));
        }
      where
        next : 4 * p + 4 ≡ 4 * (p + 1)
        next = omega arith

        front : take (4 * p) (in_bytes f p ++ drop (4 * p) old) ≡ in_bytes f p
        front = take_at (in_bytes f p) (drop (4 * p) old) (4 * p) (length-bytes f p)

        back : drop (4 * p + 4) (in_bytes f p ++ drop (4 * p) old) ≡ drop (4 * (p + 1)) old
        back =
            ap (λ (k : ℕ). drop (k + 4) (in_bytes f p ++ drop (4 * p) old)) (sym (length-bytes f p))
            ∙ drop-append-add (in_bytes f p) (drop (4 * p) old) 4
            ∙ drop-drop 4 (4 * p) old
            ∙ ap (λ (k : ℕ). drop k old) next
