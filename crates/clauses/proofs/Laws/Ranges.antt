-- A loop that tests the numbers below n, and the window gone through by index.
use Prim.Native.Nat.{ℕ, zero, suc, suc-le-suc, ◌+◌, ◌-◌, ◌*◌, ◌%◌, ◌≤◌, ◌<◌}
use mathlib.Core.Path.{◌≡◌, refl, sym, ap, ap₂, subst, ◌∙◌}
use mathlib.Core.Bool.{Bool, true, false, ◌&&◌}
use native.Mathlib.Numerals.{add-one}
use native.Mathlib.Omega.{arith}
use mathlib.Core.List.{List, [], ◌∷◌}
use lib.ListN.{get_or, length, take, drop, length-drop, length-take}
use lib.Seq.{get_or-drop, get_or-take, length-take-le}
use Rattle.hub.proofs.Laws.Bools.{never}
use Rattle.std.specs.List.{list_all}
use Rattle.std.proofs.lemmas.List.Elements.{All-get_or}
use Rattle.std.proofs.lemmas.List.Sums.{AllPass-from_list_all}
use Rattle.hub.specs.declared.record.Place.{Place}
use Rattle.hub.specs.declared.record.PlaceSlot.{PlaceSlot}
use Rattle.hub.specs.Basics.{all_from}
use Rattle.hub.specs.Phases.{by_waiter}
use Rattle.hub.specs.Record.{empty_seat}
use Rattle.hub.specs.Ring.{PLACES, read_place, read_seat}
use Rattle.hub.proofs.Laws.Ranges.{all_true, one-true}
use Rattle.clauses.specs.Window.{ticket_at}

-- What is left to test of the numbers below n says what the whole row says, b.
abbrev pub Left : (ℕ → Bool) → ℕ → Bool → ℕ → Type 0
Left f n b i = b ≡ all_from f i (n - i)

module _ (f : ℕ → Bool) (n : ℕ) (b : Bool) (i : ℕ) (left : Left f n b i) where
  pub one-fails : i < n → f i ≡ false → false ≡ b
  unfolding all_from
  one-fails l e = let z : n - i ≡ suc (n - suc i) = omega arith in sym (left ∙ rw (z, e))

  pub one_passes : i < n → f i ≡ true → Left f n b (i + 1)
  unfolding all_from
  one_passes l e =
      let z : n - i ≡ suc (n - suc i) = omega arith in
      left ∙ rw (z, e, add-one i)

  pub none_left : n ≤ i → true ≡ b
  unfolding all_from
  none_left l = let z : n - i ≡ 0 = omega arith in sym (left ∙ rw z)

and-assoc : (a b c : Bool) → (a && b) && c ≡ a && (b && c)
and-assoc true b c = refl
and-assoc false b c = refl

-- A row in two parts.
split : (f : ℕ → Bool) (i a b : ℕ) → all_from f i (a + b) ≡ all_from f i a && all_from f (i + a) b
unfolding all_from
split f i zero b = let z : i + 0 ≡ i = omega arith in let y : 0 + b ≡ b = omega arith in rw (z, y)
split f i (suc a) b =
    let z : suc a + b ≡ suc (a + b) = omega arith in
    let y : i + suc a ≡ suc i + a = omega arith in
    rw (z, y) (ap (λ (r : Bool). f i && r) (split f (suc i) a b) ∙ sym (and-assoc (f i) (all_from f (suc i) a) (all_from f (suc i + a) b)))

-- Eight numbers of 256.
module _ (f : ℕ → Bool) (b : Bool) (row : ℕ) (h : row < 32) (left : Left f 256 b (8 * row)) where
  here : b ≡ all_from f (8 * row) 8 && all_from f (8 * row + 8) (256 - (8 * row + 8))
  here =
      let z : 256 - 8 * row ≡ 8 + (256 - (8 * row + 8)) = omega arith in
      left ∙ ap (all_from f (8 * row)) z ∙ split f (8 * row) 8 (256 - (8 * row + 8))

  pub row_fails : all_from f (8 * row) 8 ≡ false → false ≡ b
  row_fails e = sym (here ∙ rw e)

  pub row_passes : all_from f (8 * row) 8 ≡ true → Left f 256 b (8 * (row + 1))
  row_passes e =
      let z : 8 * (row + 1) ≡ 8 * row + 8 = omega arith in
      here ∙ rw (e, z)

either_way_lem : (a b : Bool) → (a ≡ true → b ≡ true) → (b ≡ true → a ≡ true) → a ≡ b
either_way_lem true b f g = sym (f refl)
either_way_lem false true f g = g refl
either_way_lem false false f g = refl

same-from : (f g : ℕ → Bool) (i n : ℕ) → ((j : ℕ) → i ≤ j → j < i + n → f j ≡ g j) → all_from f i n ≡ all_from g i n
unfolding all_from
same-from f g i zero e = refl
same-from f g i (suc n) e =
    ap₂ ◌&&◌ (e i (omega arith) (omega arith)) (same-from f g (suc i) n (λ j a b. e j (omega arith) (omega arith)))

-- A place is read at the index of its ticket.
pub index_of : (o i : ℕ) → i < PLACES → ticket_at o i % PLACES ≡ i
index_of o i l = omega arith

-- The window, gone through by the index of its places.
pub by_index : (f : ℕ → Bool) (o : ℕ)
    → all_from (λ i. f (ticket_at o i)) 0 PLACES ≡ all_from f o PLACES
by_index f o =
    either_way_lem _ _
    (λ e. all_true f o PLACES
    (λ t a b. subst (λ (u : ℕ). f u ≡ true) (back t a b)
    (one-true (λ i. f (ticket_at o i)) 0 PLACES (t % PLACES) e (omega arith) (omega arith))))
    (λ e. all_true (λ i. f (ticket_at o i)) 0 PLACES
    (λ i a b. one-true f o PLACES (ticket_at o i) e (omega arith) (omega arith)))
  where
    back : (t : ℕ) → o ≤ t → t < o + PLACES → ticket_at o (t % PLACES) ≡ t
    back t a b = omega arith

-- Where nobody waits at these places, each passes a clause of whoever waits.
pub nobody-waits : (places : List PlaceSlot) (first : ℕ) (clause : ℕ → Place → Bool) → first + 8 ≤ length places
    → ((i : ℕ) (a : Place) → by_waiter true (λ q. false) a ≡ true → clause i a ≡ true)
    → list_all (λ s. by_waiter true (λ q. false) s.place) (take (first + 8 - first) (drop first places)) ≡ true
    → all_from (λ i. clause i (get_or places i empty_seat).place) first 8 ≡ true
nobody-waits places first clause room free e =
    all_true _ first 8 (λ i a b. free i _ (rw (sym (read i a b)) (each (i - first) (omega (arith, size)))))
  where
    size : length (take (first + 8 - first) (drop first places)) ≡ 8
    size =
        let z : first + 8 - first ≡ 8 = omega arith in
        omega (arith, length-take (first + 8 - first) (drop first places), length-drop first places)

    read : (i : ℕ) → first ≤ i → i < first + 8
        → get_or (take (first + 8 - first) (drop first places)) (i - first) empty_seat ≡ get_or places i empty_seat
    read i a b =
        let z : first + (i - first) ≡ i = omega arith in
        get_or-take (first + 8 - first) (drop first places) (i - first) empty_seat (omega arith)
        ∙ get_or-drop first places (i - first) empty_seat ∙ ap (λ (j : ℕ). get_or places j empty_seat) z

    each : (i : ℕ) → i < length (take (first + 8 - first) (drop first places))
        → by_waiter true (λ q. false) (get_or (take (first + 8 - first) (drop first places)) i empty_seat).place ≡ true
    each i h =
        All-get_or (λ s. by_waiter true (λ q. false) s.place ≡ true) (take (first + 8 - first) (drop first places)) i empty_seat h
        (AllPass-from_list_all (λ s. by_waiter true (λ q. false) s.place) (take (first + 8 - first) (drop first places)) e)

-- Where no party waits, a clause of the one that does holds.
pub no-clause : (f : ℕ → Bool) (a : Place) → by_waiter true (λ q. false) a ≡ true → by_waiter true f a ≡ true
no-clause f Place.Empty e = refl
no-clause f (Place.Waiting q) e = never (sym e)
no-clause f Place.Permit e = refl
no-clause f Place.Cancelled e = refl
no-clause f Place.Refused e = refl
no-clause f Place.Done e = refl

-- The clauses of the places of a window, by the index of each place.
pub window-by-index : (clause : ℕ → Place → Bool) (places : List PlaceSlot) (o : ℕ)
    → all_from (λ t. clause t (read_place places t)) o PLACES
    ≡ all_from (λ i. clause (ticket_at o i) (get_or places i empty_seat).place) 0 PLACES
unfolding read_seat
window-by-index clause places o =
    sym (by_index (λ t. clause t (read_place places t)) o)
    ∙ same-from (λ i. clause (ticket_at o i) (read_place places (ticket_at o i))) (λ i. clause (ticket_at o i) (get_or places i empty_seat).place) 0 PLACES
    (λ i a b. ap (λ (j : ℕ). clause (ticket_at o i) (get_or places j empty_seat).place) (index_of o i (omega arith)))

-- A row over a list, element for element; and the first n elements of a list by one test and the others by another.
listed : {A : Type 0} (f : ℕ → Bool) (g : A → Bool) (d : A) (l : List A) (s : ℕ)
    → ((i : ℕ) → i < length l → f (s + i) ≡ g (get_or l i d)) → all_from f s (length l) ≡ list_all g l
unfolding all_from
listed f g d [] s e = refl
listed f g d (x ∷ l) s e =
    let z : s + 0 ≡ s = omega arith in
    ap₂ ◌&&◌ (ap f (sym z) ∙ e 0 (omega arith))
    (listed f g d l (suc s) (λ i h. let y : suc s + i ≡ s + suc i = omega arith in ap f y ∙ e (suc i) (suc-le-suc h)))

pub two-parts : {A : Type 0} (f : ℕ → Bool) (g k : A → Bool) (d : A) (l : List A) (n : ℕ) → n ≤ length l
    → ((i : ℕ) → i < n → f i ≡ g (get_or l i d)) → ((i : ℕ) → n ≤ i → f i ≡ k (get_or l i d))
    → all_from f 0 (length l) ≡ list_all g (take n l) && list_all k (drop n l)
two-parts f g k d l n h e i =
    let z : length l ≡ n + (length l - n) = omega arith in
    let a = length-take-le n l h in
    let b = length-drop n l in
    ap (all_from f 0) z ∙ split f 0 n (length l - n)
    ∙ ap₂ ◌&&◌
    (ap (all_from f 0) (sym a)
    ∙ listed f g d (take n l) 0
    (λ j m. let y : 0 + j ≡ j = omega arith in
    let w : j < n = omega arith in
    ap f y ∙ e j w ∙ ap g (sym (get_or-take n l j d w))))
    (ap (all_from f (0 + n)) (sym b)
    ∙ listed f k d (drop n l) (0 + n)
    (λ j m. let y : 0 + n + j ≡ n + j = omega arith in
    ap f y ∙ i (n + j) (omega arith) ∙ ap k (sym (get_or-drop n l j d))))
