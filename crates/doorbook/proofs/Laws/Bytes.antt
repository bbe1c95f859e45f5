-- The locks in a book of bytes, four bytes each.
use Prim.Native.Nat.{ℕ, zero, suc, ◌+◌, ◌*◌, ◌/◌, ◌≤◌}
use mathlib.Core.Path.{◌≡◌, refl, ap, ◌∙◌}
use mathlib.Core.List.{List, [], ◌∷◌, ◌++◌}
use native.Mathlib.Omega.{arith}
use lib.ListN.{length, get_or, set, take, drop, length-append, length-take, length-drop}
use Rattle.std.specs.Int.{w32, from_be_bytes}
use Rattle.std.specs.Prelude.{nat_eq}
use Rattle.std.specs.List.{list_any}
use Rattle.std.specs.Simd.{first_chunks}
use Rattle.doorbook.specs.Book.{stands}
use Rattle.doorbook.specs.Bytes.{locks_of, fitted_at}
use Rattle.doorbook.specs.Frame.{number, number_at, new_lock}

pub length-locks : (l : List ℕ) → length (locks_of l) ≡ length l / 4
unfolding locks_of
length-locks [] = refl
length-locks (a ∷ []) = refl
length-locks (a ∷ b ∷ []) = refl
length-locks (a ∷ b ∷ c ∷ []) = refl
length-locks (a ∷ b ∷ c ∷ d ∷ l) = let e = length-locks l in omega arith

pub locks-200 : (l : List ℕ) → length l ≡ 800 → length (locks_of l) ≡ 200
locks-200 l e = omega (arith, length-locks l)

four-on : (n : ℕ) → 4 * suc n ≡ suc (suc (suc (suc (4 * n))))
four-on n = omega arith

eight-on : (n : ℕ) → 4 * suc n + 4 ≡ suc (suc (suc (suc (4 * n + 4))))
eight-on n = omega arith

-- Four bytes further on.
past : (a b c d : ℕ) (l : List ℕ) (i k : ℕ) → k ≡ i + 4 → get_or (a ∷ b ∷ c ∷ d ∷ l) k 0 ≡ get_or l i 0
past a b c d l i k e =
    let f : k ≡ suc (suc (suc (suc i))) = omega arith in
    ap (λ (k : ℕ). get_or (a ∷ b ∷ c ∷ d ∷ l) k 0) f

pub lock_there : (i : ℕ) (l : List ℕ) → 4 * i + 4 ≤ length l
    → get_or (locks_of l) i 0 ≡ number_at l (4 * i)
unfolding locks_of
lock_there i [] h = absurd (omega arith)
lock_there i (a ∷ []) h = absurd (omega arith)
lock_there i (a ∷ b ∷ []) h = absurd (omega arith)
lock_there i (a ∷ b ∷ c ∷ []) h = absurd (omega arith)
lock_there zero (a ∷ b ∷ c ∷ d ∷ l) h = refl
lock_there (suc i) (a ∷ b ∷ c ∷ d ∷ l) h =
    let e = lock_there i l (omega arith) in
    cc (
      past a b c d l (4 * i) (4 * suc i) (omega arith),
      past a b c d l (4 * i + 1) (4 * suc i + 1) (omega arith),
      past a b c d l (4 * i + 2) (4 * suc i + 2) (omega arith),
      past a b c d l (4 * i + 3) (4 * suc i + 3) (omega arith),
    )

pub length-fitted : (at : ℕ) (l f : List ℕ) → at + 4 ≤ length l
    → length (fitted_at at l f) ≡ length l
length-fitted at l f h = simp (length-append, length-take, length-drop) (omega arith)

abbrev spliced : ℕ → ℕ → List ℕ → List ℕ → List ℕ
spliced at end l f =
    take at l ++ (get_or f 2 0 ∷ get_or f 3 0 ∷ get_or f 4 0 ∷ get_or f 5 0 ∷ []) ++ drop end l

-- Read four bytes at a time, the book is its locks.
in_four : (a b c d : ℕ) → from_be_bytes w32 (a ∷ b ∷ c ∷ d ∷ []) ≡ number a b c d
in_four a b c d = omega arith

pub stands-in_fours : (lock k : ℕ) (l : List ℕ) → length l ≡ 4 * k
    → list_any (λ four. nat_eq (from_be_bytes w32 four) lock) (first_chunks 4 k l) ≡ stands lock (locks_of l)
unfolding locks_of stands
stands-in_fours lock zero [] h = refl
stands-in_fours lock zero (a ∷ l) h = absurd (omega arith)
stands-in_fours lock (suc k) [] h = absurd (omega arith)
stands-in_fours lock (suc k) (a ∷ []) h = absurd (omega arith)
stands-in_fours lock (suc k) (a ∷ b ∷ []) h = absurd (omega arith)
stands-in_fours lock (suc k) (a ∷ b ∷ c ∷ []) h = absurd (omega arith)
stands-in_fours lock (suc k) (a ∷ b ∷ c ∷ d ∷ l) h =
    rw (in_four a b c d, stands-in_fours lock k l (omega arith))

-- The new lock stands where its bytes were written, and the others stand as before.
pub locks-fitted : (d : ℕ) (l f : List ℕ) → 4 * d + 4 ≤ length l
    → locks_of (fitted_at (4 * d) l f) ≡ set (locks_of l) d (new_lock f)
unfolding locks_of
locks-fitted d [] f h = absurd (omega arith)
locks-fitted d (a ∷ []) f h = absurd (omega arith)
locks-fitted d (a ∷ b ∷ []) f h = absurd (omega arith)
locks-fitted d (a ∷ b ∷ c ∷ []) f h = absurd (omega arith)
locks-fitted zero (a ∷ b ∷ c ∷ e ∷ l) f h = refl
locks-fitted (suc d) (a ∷ b ∷ c ∷ e ∷ l) f h =
    ap locks_of
    (ap (λ (k : ℕ). spliced k (4 * suc d + 4) (a ∷ b ∷ c ∷ e ∷ l) f) (four-on d)
    ∙ ap (λ (k : ℕ). spliced (suc (suc (suc (suc (4 * d))))) k (a ∷ b ∷ c ∷ e ∷ l) f) (eight-on d))
    ∙ ap (λ (m : List ℕ). number a b c e ∷ m) (locks-fitted d l f (omega arith))
