-- The ways that a radio goes: what is taken from a party, a place or the store is with one other after, so
-- that all radios weigh as before, whatever each weighs. With 1 for each that is their count; with 1 for
-- radio b alone, how often b is among them.
use Prim.Native.Nat.{ℕ, zero, suc, ◌+◌, ◌%◌, ◌≤◌, ◌<◌}
use mathlib.Core.Path.{◌≡◌, refl, ap, ◌∙◌}
use mathlib.Core.Bool.{Bool, true, false, cond}
use mathlib.Core.List.{List, [], ◌∷◌, map}
use mathlib.Core.Logic.{◌≢◌}
use native.Mathlib.Decide.{dec_le}
use native.Mathlib.Nat.{le_of_suc-le-suc, not-suc-le-zero}
use native.Mathlib.Omega.{arith}
use lib.ListN.{length, get_or, set, length-set, get_or-eq_default}
use lib.Seq.{get_or-set_other, set-get_or}
use Rattle.hub.specs.declared.record.PartySlot.{PartySlot}
use Rattle.hub.specs.declared.record.PlaceSlot.{PlaceSlot}
use Rattle.hub.specs.declared.record.Pool.{Pool}
use Rattle.hub.specs.Basics.{bit, count, weight}
use Rattle.hub.specs.Phases.{has_radio, is_permit}
use Rattle.hub.specs.Radios.{STORE, fetch, hand_of, hand_to, laid_at, lay_at, put_back, radios_in, ring_from}
use Rattle.hub.specs.Radios.{shown, stored_in}
use Rattle.hub.specs.RadiosKept.{FirstInFirstOut}
use Rattle.hub.specs.Record.{PARTIES, phases_of, places_of}
use Rattle.hub.specs.Ring.{PLACES}
use Rattle.hub.proofs.Laws.Lists.{weight-append}
use Rattle.hub.proofs.Radios.Store.{first-in-first-out, stored-first}

-- Who has a radio; at which places a permit is.
abbrev pub carriers : List PartySlot → List Bool
carriers l = map (λ s. has_radio s.phase) l

abbrev pub permits_at : List PlaceSlot → List Bool
permits_at l = map (λ s. is_permit s.place) l

-- A radio weighs g where one is, and nothing elsewhere.
abbrev share : (ℕ → ℕ) → Bool → ℕ → ℕ
share g b r = cond b (g r) 0

unfoldable pub sum : (ℕ → ℕ) → List Bool → List ℕ → ℕ
sum g [] rs = 0
sum g (b ∷ bs) [] = 0
sum g (b ∷ bs) (r ∷ rs) = share g b r + sum g bs rs

abbrev pub total : (ℕ → ℕ) → List Bool → List Bool → Pool → ℕ
total g bs cs q = sum g bs q.hands + sum g cs q.laid + weight g (stored_in q)

abbrev pub one : ℕ → ℕ
one r = 1

module _ (g : ℕ → ℕ) where
  both-set : (bs : List Bool) (rs : List ℕ) (i : ℕ) (b : Bool) (r : ℕ) → i < length bs → i < length rs
      → sum g (set bs i b) (set rs i r) + share g (get_or bs i false) (get_or rs i 0) ≡ sum g bs rs + share g b r
  unfolding sum
  both-set [] rs i b r h k = absurd (not-suc-le-zero h)
  both-set (x ∷ bs) [] i b r h k = absurd (not-suc-le-zero k)
  both-set (x ∷ bs) (y ∷ rs) zero b r h k = omega arith
  both-set (x ∷ bs) (y ∷ rs) (suc i) b r h k =
      omega (arith, both-set bs rs i b r (le_of_suc-le-suc h) (le_of_suc-le-suc k))

  -- The one at i was a and becomes b; its radio becomes r, or stays.
  module _ (bs : List Bool) (rs : List ℕ) (s : length bs ≡ length rs) (i : ℕ) (h : i < length bs)
      (a b : Bool) (e : get_or bs i false ≡ a) where
    sum-set : (r : ℕ) → sum g (set bs i b) (set rs i r) + share g a (get_or rs i 0) ≡ sum g bs rs + share g b r
    sum-set r = rw e at (both-set bs rs i b r h (omega arith))

    sum-turn : sum g (set bs i b) rs + share g a (get_or rs i 0) ≡ sum g bs rs + share g b (get_or rs i 0)
    sum-turn = rw set-get_or at (sum-set (get_or rs i 0))

  sum-shown : {A B : Type 0} (has : A → Bool) (f : B → A) (l : List B) (rs : List ℕ)
      → weight g (shown has (map f l) rs) ≡ sum g (map (λ x. has (f x)) l) rs
  unfolding shown sum weight
  sum-shown has f [] rs = refl
  sum-shown has f (x ∷ l) [] = refl
  sum-shown has f (x ∷ l) (r ∷ rs) =
      omega (arith, go (has (f x)) (shown has (map f l) rs), sum-shown has f l rs)
    where
      go : (b : Bool) (m : List ℕ) → weight g (cond b (r ∷ m) m) ≡ share g b r + weight g m
      go true m = refl
      go false m = omega arith

  pub radios-weigh : (slots : List PartySlot) (places : List PlaceSlot) (q : Pool)
      → weight g (radios_in slots places q) ≡ total g (carriers slots) (permits_at places) q
  unfolding radios_in
  radios-weigh slots places q =
      rw (weight-append, weight-append, sum-shown has_radio, sum-shown is_permit) (omega arith)

count-shown : {A B : Type 0} (has : A → Bool) (f : B → A) (l : List B) (rs : List ℕ) → length l ≡ length rs
    → count has (map f l) ≡ sum one (map (λ x. has (f x)) l) rs
unfolding weight sum
count-shown has f [] rs e = refl
count-shown has f (x ∷ l) [] e = let z : ⊥ = omega arith in absurd z
count-shown has f (x ∷ l) (r ∷ rs) e = go (has (f x)) (count-shown has f l rs (omega arith))
  where
    go : (b : Bool) {m n : ℕ} → m ≡ n → bit b + m ≡ cond b 1 0 + n
    go true e = omega arith
    go false e = omega arith

pub count-ring : (l : List ℕ) (i n : ℕ) → weight one (ring_from l i n) ≡ n
unfolding weight ring_from
count-ring l i zero = refl
count-ring l i (suc n) = omega (arith, count-ring l (suc i) n)

pub radios-count : (slots : List PartySlot) (places : List PlaceSlot) (q : Pool)
    → length slots ≡ length q.hands → length places ≡ length q.laid
    → count has_radio (phases_of slots) + count is_permit (places_of places) + q.stored
    ≡ total one (carriers slots) (permits_at places) q
radios-count slots places q e f =
    omega (
      arith,
      count-shown has_radio (λ (s : PartySlot). s.phase) slots q.hands e,
      count-shown is_permit (λ (s : PlaceSlot). s.place) places q.laid f,
      count-ring q.store q.first q.stored,
    )

-- The lengths, and that there are no more radios than the store has room for.
pub record Sized (bs cs : List Bool) (q : Pool) : Type 0 where
  pub slots : length bs ≡ PARTIES
  pub places : length cs ≡ PLACES
  pub hands : length q.hands ≡ PARTIES
  pub laid : length q.laid ≡ PLACES
  pub store : length q.store ≡ STORE
  pub few : total one bs cs q ≤ STORE

abbrev lengths : List Bool → List Bool → Pool → List ℕ
lengths bs cs q =
    length bs ∷ length cs ∷ length q.hands ∷ length q.laid ∷ length q.store ∷ []

-- The radios of bs', cs' and q' weigh what those of bs, cs and q do.
pub record Same (bs cs : List Bool) (q : Pool) (bs' cs' : List Bool) (q' : Pool) : Type 0 where
  pub sizes : lengths bs' cs' q' ≡ lengths bs cs q
  pub weigh : (g : ℕ → ℕ) → total g bs' cs' q' ≡ total g bs cs q

pub unmoved : {bs cs : List Bool} {q : Pool} → Same bs cs q bs cs q
unmoved = record { sizes = refl; weigh = λ g. refl }

-- An element that is not what stands for one past the end is in the list.
pub within : {A : Type 0} (l : List A) (i : ℕ) (d : A) → (get_or l i d ≡ d → ⊥) → i < length l
within l i d n = go (dec_le (length l) i)
  where
    go : Dec (length l ≤ i) → i < length l
    go (yes h) = absurd (n (get_or-eq_default l d h))
    go (no h) = omega arith

inside : (bs : List Bool) (i : ℕ) → get_or bs i false ≡ true → i < length bs
inside bs i e = within bs i false (λ z. (let y : ◌≡◌ {A = ℕ} 0 1 = cc in omega arith))

module _ (bs cs : List Bool) (q : Pool) (s : Sized bs cs q) where
  -- To the store's end: there is room, if one radio is elsewhere.
  put-back : (r : ℕ) (g : ℕ → ℕ) → 1 ≤ sum one bs q.hands + sum one cs q.laid
      → weight g (stored_in (put_back r q)) ≡ weight g (stored_in q) + g r
  unfolding weight FirstInFirstOut
  put-back r g h =
      let i = count-ring q.store q.first q.stored in
      let e = (first-in-first-out q s.store).0 r (omega arith) in
      omega (arith, ap (weight g) e, weight-append g (stored_in q) (r ∷ []))

  -- To party p.
  given : (p : ℕ) → get_or bs p false ≡ false → p < PARTIES → (r : ℕ) (g : ℕ → ℕ)
      → sum g (set bs p true) (set q.hands p r) ≡ sum g bs q.hands + g r
  given p e h r g =
      omega (arith, sum-set g bs q.hands (omega arith) p (omega arith) false true e r)

  -- From the store to party p: 36.
  pub fetched : (p : ℕ) → get_or bs p false ≡ false → p < PARTIES → 1 ≤ q.stored
      → Same bs cs q (set bs p true) cs (fetch p q)
  unfolding weight
  fetched p e h n =
      let r = get_or q.store (q.first % STORE) 0 in
      record {
        sizes = simp length-set;
        weigh = λ g. omega (arith, ap (weight g) (stored-first q p n), given p e h r g);
      }

  module _ (p : ℕ) (e : get_or bs p false ≡ true) where
    -- From party p.
    gone : (g : ℕ → ℕ) → sum g (set bs p false) q.hands + g (hand_of q p) ≡ sum g bs q.hands
    unfolding hand_of
    gone g = omega (arith, sum-turn g bs q.hands (omega arith) p (inside bs p e) true false e)

    -- To the store: 38, 2D.
    pub stored : Same bs cs q (set bs p false) cs (put_back (hand_of q p) q)
    stored =
        record {
          sizes = simp length-set;
          weigh = λ g. omega (arith, gone g, put-back (hand_of q p) g (omega (arith, gone one)));
        }

    -- To the place of ticket t: 29, 2B.
    pub left : (t : ℕ) → get_or cs (t % PLACES) false ≡ false
        → Same bs cs q (set bs p false) (set cs (t % PLACES) true) (lay_at t (hand_of q p) q)
    left t f =
        let r = hand_of q p in
        record {
          sizes = simp length-set;
          weigh = λ g.
              let i = sum-set g cs q.laid (omega arith) (t % PLACES) (omega arith) false true f r in
              omega (arith, gone g);
        }

    -- To the waiter w: 2A.
    pub passed : (w : ℕ) → get_or bs w false ≡ false → w < PARTIES
        → Same bs cs q (set (set bs w true) p false) cs (hand_to w (hand_of q p) q)
    unfolding hand_of
    passed w f h =
        let r = hand_of q p in
        let o : p ≢ w = λ z. (let y : ◌≡◌ {A = ℕ} 0 1 = cc in omega arith) in
        let i = get_or-set_other bs w p true false o ∙ e in
        record {
          sizes = simp length-set;
          weigh = λ g.
              omega (
                arith,
                given w f h r g,
                sum-turn g (set bs w true) (set q.hands w r)
                    (omega (arith, length-set bs w true, length-set q.hands w r)) p
                    (inside (set bs w true) p i) true false i,
                ap g (get_or-set_other q.hands w p r 0 o),
              );
        }

  module _ (t : ℕ) (e : get_or cs (t % PLACES) false ≡ true) where
    -- From the place of ticket t.
    cleared : (g : ℕ → ℕ)
        → sum g (set cs (t % PLACES) false) q.laid + g (laid_at q t) ≡ sum g cs q.laid
    unfolding laid_at
    cleared g =
        omega (arith, sum-turn g cs q.laid (omega arith) (t % PLACES) (inside cs _ e) true false e)

    -- To party p: 25, 31.
    pub found : (p : ℕ) → get_or bs p false ≡ false → p < PARTIES
        → Same bs cs q (set bs p true) (set cs (t % PLACES) false) (hand_to p (laid_at q t) q)
    found p f h =
        record {
          sizes = simp length-set;
          weigh = λ g. omega (arith, cleared g, given p f h (laid_at q t) g);
        }

    -- To the store: 33.
    pub dropped : Same bs cs q bs (set cs (t % PLACES) false) (put_back (laid_at q t) q)
    dropped =
        record {
          sizes = simp length-set;
          weigh = λ g. omega (arith, cleared g, put-back (laid_at q t) g (omega (arith, cleared one)));
        }
