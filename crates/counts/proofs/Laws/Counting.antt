-- A loop that counts: what is counted and what is left come to the whole.
use mir.Val.{bool_byte}
use Prim.Native.Nat.{ℕ, ◌+◌, ◌≤◌, ◌<◌}
use mathlib.Core.Path.{◌≡◌, ap, refl}
use mathlib.Core.Bool.{Bool, true, false}
use mathlib.Core.List.{List}
use native.Mathlib.Numerals.{add-one}
use native.Mathlib.Omega.{arith}
use lib.ListN.{length, get_or, drop, drop_of_length-le}
use lib.Seq.{drop-cons}
use Rattle.hub.specs.declared.record.PartySlot.{PartySlot}
use Rattle.hub.specs.Basics.{bit, count, weight}
use Rattle.hub.specs.Phases.{draws_ticket}
use Rattle.hub.specs.Record.{phases_of}
use Rattle.hub.proofs.Laws.Lists.{weight-length, weight-map}

pub bit-most : (b : Bool) → bit b ≤ 1
bit-most true = omega arith
bit-most false = omega arith

-- A test as a number, in std's words.
pub bit-of : (b : Bool) → bool_byte b ≡ bit b
bit-of true = refl
bit-of false = refl

-- After p of the N elements, n passed the test.
pub record Counting {A : Type 0} (f : A → Bool) (l : List A) (N p n : ℕ) : Type 0 where
  pub size : length l ≡ N
  pub within : p ≤ N
  pub few : n ≤ p
  pub left : n + weight (λ x. bit (f x)) (drop p l) ≡ weight (λ x. bit (f x)) l

pub counting-start : {A : Type 0} (f : A → Bool) (l : List A) → Counting f l (length l) 0 0
counting-start f l =
    let whole : weight (λ x. bit (f x)) (drop 0 l) ≡ weight (λ x. bit (f x)) l = refl in
    record { size = refl; within = omega arith; few = omega arith; left = omega (arith, whole) }

module _ {A : Type 0} (f : A → Bool) (l : List A) (N p n : ℕ) (c : Counting f l N p n) where
  pub counting-on : (d : A) (x : ℕ) → p < N → x ≡ bit (f (get_or l p d))
      → Counting f l N (p + 1) (n + x)
  unfolding weight
  counting-on d x i e =
      record {
        size = c.size;
        within = omega arith;
        few = omega (arith, c.few, e, bit-most (f (get_or l p d)));
        left =
            omega (
              arith,
              c.left,
              e,
              ap (weight (λ x. bit (f x))) (drop-cons l p d (omega (arith, c.size))),
              ap (λ (j : ℕ). weight (λ x. bit (f x)) (drop j l)) (add-one p),
            );
      }

  pub counting-all : N ≤ p → n ≡ weight (λ x. bit (f x)) l
  unfolding weight
  counting-all i =
      omega (
        arith,
        c.left,
        ap (weight (λ x. bit (f x))) (drop_of_length-le l {i = p} (omega (arith, c.size))),
      )

-- No more parties may draw a ticket than there are slots.
pub draws-few : (l : List PartySlot) → count draws_ticket (phases_of l) ≤ length l
draws-few l =
    omega (
      arith,
      weight-map (λ x. bit (draws_ticket x)) (λ (s : PartySlot). s.phase) l,
      weight-length (λ (s : PartySlot). bit (draws_ticket s.phase))
          (λ s. bit-most (draws_ticket s.phase)) l,
    )
