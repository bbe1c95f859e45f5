-- Radios taken out of a table as they are met: what is left says how often each was met.
use Prim.Native.Nat.{ℕ, zero, suc, ◌+◌, ◌-◌, ◌%◌, ◌≤◌, ◌<◌}
use mathlib.Core.Path.{◌≡◌, refl, sym, ap, ◌∙◌}
use mathlib.Core.Bool.{Bool, true, false, not, cond, and-false, ◌&&◌, ◌||◌}
use mathlib.Core.List.{List, [], ◌∷◌, ◌++◌, map}
use mathlib.Core.Logic.{◌⊎◌, inl, inr}
use native.Mathlib.Decide.{ℕ_discrete, dec_le}
use native.Mathlib.Numerals.{add-one}
use native.Mathlib.Omega.{arith}
use borrow.Author.Tests.{eq-eqb, ne_eqb}
use lib.Dec.{eqb}
use lib.ListN.{length, get_or, set, take, drop, replicate, length-set, get_or-eq_default}
use lib.Seq.{drop-cons, get_or-set_same, get_or-set_other}
use Rattle.std.specs.Prelude.{Option, Some, None, is_some}
use Rattle.std.specs.List.{list_all}
use Rattle.std.specs.Option.{option_and_then}
use Rattle.hub.specs.Basics.{all_from, among, bit, weight}
use Rattle.hub.specs.declared.record.PartySlot.{PartySlot}
use Rattle.hub.specs.declared.record.PlaceSlot.{PlaceSlot}
use Rattle.hub.specs.declared.record.Pool.{Pool}
use Rattle.hub.specs.Phases.{has_radio, is_permit}
use Rattle.hub.specs.Radios.{STORE, differ, occurs, radios_in, rearranged, ring_from, shown, stored_in}
use Rattle.hub.specs.Record.{phases_of, places_of}
use Rattle.hub.proofs.Laws.Bools.{both, never}
use Rattle.hub.proofs.Laws.Lists.{weight-replicate, weight-set}
use Rattle.hub.proofs.Laws.Ranges.{all_true, one-true}
use Rattle.pool.specs.declared.check.Missing.{Missing}
use Rattle.pool.specs.Missing.{Counted, left_by, marked, met, missing_of, none_counted, none_missing, table_of}

-- 1 where radio b is missing.
abbrev at : List Bool → ℕ → ℕ
at t b = bit (get_or t b false)

abbrev missing : List Bool → ℕ
missing t = weight bit t

-- What is true stands in the table.
stands : (t : List Bool) (r : ℕ) → get_or t r false ≡ true → r < length t
stands t r e = go (dec_le (suc r) (length t))
  where
    go : Dec (suc r ≤ length t) → r < length t
    go (yes h) = h
    go (no h) = never (sym e ∙ get_or-eq_default t false {n = r} (omega arith))

-- A list met after another.
pub met-append : (a b : List ℕ) (m : Missing) → met (a ++ b) m ≡ option_and_then (met b) (met a m)
unfolding met
met-append [] b m = refl
met-append (r ∷ a) b m = go (get_or m.radios r false) (met-append a b rest)
  where
    rest : Missing
    rest = table_of (set m.radios r false) (m.count - 1)

    go : (c : Bool) → met (a ++ b) rest ≡ option_and_then (met b) (met a rest)
        → cond c (met (a ++ b) rest) None ≡ option_and_then (met b) (cond c (met a rest) None)
    go true e = e
    go false e = refl

-- One radio's mark is changed.
at-same : (t : List Bool) (r : ℕ) (x : Bool) → r < length t → at (set t r x) r ≡ bit x
at-same t r x h = ap bit (get_or-set_same t r x false h)

at-other : (t : List Bool) (r b : ℕ) (x : Bool) → (b ≡ r → ⊥) → at (set t r x) b ≡ at t b
at-other t r b x d = ap bit (get_or-set_other t r b x false d)

-- How often a radio is in a list with one more in front.
occurs-one : (b r : ℕ) (l : List ℕ) → occurs b (r ∷ l) ≡ bit (eqb b r) + occurs b l
unfolding weight
occurs-one b r l = refl

-- Where all are met, what was missing is what is left and what was met; and what is left is still counted.
pub record Met (l : List ℕ) (t : List Bool) (n : ℕ) (u : Missing) : Type 0 where
  pub size : length u.radios ≡ length t
  pub each : (b : ℕ) → at u.radios b + occurs b l ≡ at t b
  pub sum : missing u.radios + length l ≡ missing t
  pub count : n ≡ missing t → u.count ≡ missing u.radios

pub all-met : (l : List ℕ) (t : List Bool) (n : ℕ) (u : Missing) → met l (table_of t n) ≡ Some u → Met l t n u
unfolding met weight
all-met [] t n u e =
    let tables : table_of t n ≡ u = cc in
    let same : t ≡ u.radios = ap (λ (m : Missing). m.radios) tables in
    record {
      size = ap length (sym same);
      each = λ b. omega (arith, ap (λ (t : List Bool). at t b) same);
      sum = omega (arith, ap missing same);
      count = λ z. omega (arith, z, ap missing same, ap (λ (m : Missing). m.count) tables);
    }
all-met (r ∷ l) t n u e = go (get_or t r false) refl (all-met l (set t r false) (n - 1) u)
  where
    go : (c : Bool) → get_or t r false ≡ c
        → (met l (table_of (set t r false) (n - 1)) ≡ Some u → Met l (set t r false) (n - 1) u) → Met (r ∷ l) t n u
    go false z ih =
        let none : ◌≡◌ {A = Option Missing} None (Some u) = rw z at e in
        cc
    go true z ih =
        let rest = ih (rw z at e) in
        let h = stands t r z in
        record {
          size = rest.size ∙ length-set t r _;
          each = λ b. one rest h z b (ℕ_discrete b r);
          sum = omega (arith, rest.sum, weight-set bit t r false false h, ap bit z);
          count = λ k. rest.count (omega (arith, k, weight-set bit t r false false h, ap bit z));
        }
      where
        one : Met l (set t r false) (n - 1) u → r < length t → get_or t r false ≡ true → (b : ℕ) → Dec (b ≡ r)
            → at u.radios b + occurs b (r ∷ l) ≡ at t b
        one rest h z b (yes d) =
            omega (
              arith,
              rest.each b,
              occurs-one b r l,
              ap bit (eq-eqb b r d),
              ap (at (set t r false)) d,
              at-same t r false h,
              ap (at t) d,
              ap bit z,
            )
        one rest h z b (no d) =
            omega (arith, rest.each b, occurs-one b r l, ap bit (ne_eqb b r d), at-other t r b false d)

-- A list of bytes.
unfoldable pub Bytes : List ℕ → Type 0
Bytes [] = Unit {0}
Bytes (r ∷ l) = (r < 256) × Bytes l

-- Where not all are met, one is met more often than it is missing.
pub met-over : (l : List ℕ) (t : List Bool) (n : ℕ) → length t ≡ 256 → Bytes l → met l (table_of t n) ≡ None
    → (b : ℕ) × (b < 256) × (at t b < occurs b l)
unfolding met Bytes weight
met-over [] t n s y e = let z : ◌≡◌ {A = Option Missing} (Some (table_of t n)) None = e in cc
met-over (r ∷ l) t n s y e =
    go (get_or t r false) refl (met-over l (set t r false) (n - 1) (length-set t r _ ∙ s) y.1)
  where
    go : (c : Bool) → get_or t r false ≡ c
        → (met l (table_of (set t r false) (n - 1)) ≡ None → (b : ℕ) × (b < 256) × (at (set t r false) b < occurs b l))
        → (b : ℕ) × (b < 256) × (at t b < occurs b (r ∷ l))
    go false z ih = (r, y.0, omega (arith, occurs-one r r l, ap bit (eq-eqb r r refl), ap bit z))
    go true z ih =
        let rest = ih (rw z at e) in
        (rest.0, rest.1, over rest.0 rest.2 (ℕ_discrete rest.0 r))
      where
        over : (b : ℕ) → at (set t r false) b < occurs b l → Dec (b ≡ r) → at t b < occurs b (r ∷ l)
        over b h (yes d) =
            omega (arith, h, occurs-one b r l, ap bit (eq-eqb b r d), ap (at t) d, ap bit z)
        over b h (no d) =
            omega (arith, h, occurs-one b r l, ap bit (ne_eqb b r d), at-other t r b false d)

-- The marks of a list in which no radio is twice, nor marked before.
pub record Marked (l : List ℕ) (t : List Bool) : Type 0 where
  pub size : length (marked l t) ≡ 256
  pub each : (b : ℕ) → at (marked l t) b ≡ at t b + occurs b l
  pub sum : missing (marked l t) ≡ missing t + length l

pub all-marked : (l : List ℕ) (t : List Bool) → length t ≡ 256 → Bytes l
    → ((b : ℕ) → at t b + occurs b l ≤ 1) → Marked l t
unfolding marked Bytes weight
all-marked [] t s y few = record { size = s; each = λ b. omega arith; sum = omega arith }
all-marked (r ∷ l) t s y few =
    let rest = all-marked l (set t r true) (length-set t r _ ∙ s) y.1 (λ b. less b (ℕ_discrete b r)) in
    record {
      size = rest.size;
      each = λ b. omega (arith, rest.each b, now b (ℕ_discrete b r));
      sum = omega (arith, rest.sum, weight-set bit t r true false within, free);
    }
  where
    within : r < length t
    within = omega arith

    free : at t r ≡ 0
    free = omega (arith, few r, occurs-one r r l, ap bit (eq-eqb r r refl))

    now : (b : ℕ) → Dec (b ≡ r) → at (set t r true) b + occurs b l ≡ at t b + occurs b (r ∷ l)
    now b (yes d) =
        omega (
          arith,
          occurs-one b r l,
          ap bit (eq-eqb b r d),
          ap (at (set t r true)) d,
          at-same t r true within,
          ap (at t) d,
          free,
        )
    now b (no d) = omega (arith, occurs-one b r l, ap bit (ne_eqb b r d), at-other t r b true d)

    less : (b : ℕ) → Dec (b ≡ r) → at (set t r true) b + occurs b l ≤ 1
    less b d = omega (arith, now b d, few b)

unmarked : (n b : ℕ) → get_or (replicate n false) b false ≡ false
unmarked zero b = refl
unmarked (suc n) zero = refl
unmarked (suc n) (suc b) = unmarked n b

-- Where no two are alike, none is twice.
not-among : (l : List ℕ) (r : ℕ) → among l r ≡ false → occurs r l ≡ 0
unfolding weight
not-among [] r e = refl
not-among (x ∷ l) r e = go (eqb r x) refl (not-among l r)
  where
    go : (c : Bool) → eqb r x ≡ c → (among l r ≡ false → occurs r l ≡ 0) → occurs r (x ∷ l) ≡ 0
    go true z ih = never (sym (ap (λ (c : Bool). c || among l r) z) ∙ e)
    go false z ih = omega (arith, occurs-one r x l, ap bit z, ih (sym (ap (λ (c : Bool). c || among l r) z) ∙ e))

pub once : (l : List ℕ) → differ l ≡ true → (b : ℕ) → occurs b l ≤ 1
unfolding differ weight
once [] e b = omega arith
once (r ∷ l) e b = go (among l r) refl (ℕ_discrete b r) (λ d. once l d b)
  where
    go : (c : Bool) → among l r ≡ c → Dec (b ≡ r) → (differ l ≡ true → occurs b l ≤ 1) → occurs b (r ∷ l) ≤ 1
    go true z d ih = never (sym (sym (ap (λ (c : Bool). not c && differ l) z) ∙ e))
    go false z (yes d) ih =
        omega (arith, occurs-one b r l, ap bit (eq-eqb b r d), ap (λ (b : ℕ). occurs b l) d, not-among l r z)
    go false z (no d) ih =
        omega (
          arith,
          occurs-one b r l,
          ap bit (ne_eqb b r d),
          ih (sym (ap (λ (c : Bool). not c && differ l) z) ∙ e),
        )

-- Where none is counted, none is marked.
none-left : (t : List Bool) → missing t ≡ 0 → (b : ℕ) → at t b ≡ 0
unfolding weight
none-left [] e b = refl
none-left (true ∷ t) e b = omega (arith, e)
none-left (false ∷ t) e zero = refl
none-left (false ∷ t) e (suc b) = none-left t (omega (arith, e)) b

-- Where a table is counted, its count says whether none is left in it.
counted-none : (t : List Bool) → eqb (missing t) 0 ≡ list_all not t
unfolding weight
counted-none [] = refl
counted-none (true ∷ t) = ne_eqb _ _ (λ e. omega (arith, e))
counted-none (false ∷ t) =
    let same : missing (false ∷ t) ≡ missing t = omega arith in
    ap (λ (n : ℕ). eqb n 0) same ∙ counted-none t

pub by-its-count : (m : Missing) → Counted m → none_counted m ≡ none_missing m
by-its-count m e = ap (λ (n : ℕ). eqb n 0) e ∙ counted-none m.radios

-- What is left says whether the radios that were met are those of the table. The test asks the table, or its count.
abbrev pub says_by : (Missing → Bool) → Option Missing → Bool
says_by f None = false
says_by f (Some m) = f m

abbrev pub says : Option Missing → Bool
says o = says_by none_missing o

abbrev pub count_says : Option Missing → Bool
count_says o = says_by none_counted o

-- A method that met no radio but those that were missing leaves its table.
pub left-some : (o : Option (Unit {0})) (m : Missing) → is_some o ≡ true → left_by o m ≡ Some m
left-some (Some _) m e = refl
left-some None m e = never (sym e)

module _ (f : Missing → Bool) where
  pub says-left : (o : Option (Unit {0})) (m : Missing) → is_some o ≡ true → says_by f (left_by o m) ≡ f m
  says-left o m e = ap (says_by f) (left-some o m e)

  pub says-nothing : (o : Option (Unit {0})) (m : Missing) → is_some o ≡ false → says_by f (left_by o m) ≡ false
  says-nothing (Some _) m e = never e
  says-nothing None m e = refl

module _ (l m : List ℕ) (d : differ m ≡ true) (x : Bytes l) (y : Bytes m) where
  abbrev whole : List Bool
  whole = marked m (replicate 256 false)

  table : Marked m (replicate 256 false)
  table = all-marked m (replicate 256 false) refl y (λ b. omega (arith, ap bit (unmarked 256 b), once m d b))

  -- A radio that is in one of them more often.
  differs : (b : ℕ) → b < 256 → (occurs b l ≡ occurs b m → ⊥) → rearranged l m ≡ false
  unfolding rearranged
  differs b k n = go (all_from same-often 0 256) refl
    where
      same-often : ℕ → Bool
      same-often b = eqb (occurs b l) (occurs b m)

      go : (c : Bool) → all_from same-often 0 256 ≡ c → eqb (length l) (length m) && c ≡ false
      go false e = and-false (eqb (length l) (length m))
      go true e =
          never (sym (one-true same-often 0 256 b e (omega arith) k) ∙ ne_eqb (occurs b l) (occurs b m) n)

  all_marked : length m ≡ missing whole
  all_marked = omega (arith, table.sum, weight-replicate bit false refl 256)

  pub by-count : (o : Option Missing) → o ≡ met l (missing_of m) → count_says o ≡ rearranged l m
  unfolding rearranged
  by-count None e =
      let over = met-over l whole (length m) table.size x (sym e) in
      sym (differs over.0 over.1 (λ z. omega (arith, over.2, table.each over.0, ap bit (unmarked 256 over.0), z)))
  by-count (Some u) e = go (ℕ_discrete u.count 0)
    where
      at_last : Met l whole (length m) u
      at_last = all-met l whole (length m) u (sym e)

      left : u.count + length l ≡ length m
      left = omega (arith, at_last.count all_marked, at_last.sum, all_marked)

      go : Dec (u.count ≡ 0) → eqb u.count 0 ≡ rearranged l m
      go (yes z) =
          let none = none-left u.radios (omega (arith, z, at_last.count all_marked)) in
          eq-eqb _ _ z
          ∙ sym
          (both _ _ (eq-eqb _ _ (omega (arith, z, left)))
          (all_true _ 0 256 (λ b i k. eq-eqb _ _ (omega (arith, none b, at_last.each b, table.each b, ap bit (unmarked 256 b))))))
      go (no z) =
          let some : eqb (length l) (length m) ≡ false = ne_eqb _ _ (λ e. z (omega (arith, left, e))) in
          ne_eqb _ _ z ∙ rw some

  -- What is left is still counted, so that the table says the same.
  pub still-counted : (u : Missing) → ◌≡◌ {A = Option Missing} (Some u) (met l (missing_of m)) → Counted u
  still-counted u e = (all-met l whole (length m) u (sym e)).count all_marked

  pub by-table : (o : Option Missing) → o ≡ met l (missing_of m) → says o ≡ rearranged l m
  by-table None e = by-count None e
  by-table (Some u) e = sym (by-its-count u (still-counted u e)) ∙ by-count (Some u) e

-- One mark after another is set.
pub one-marked : (l : List ℕ) (i : ℕ) (t : List Bool) → i < length l
    → marked (drop i l) t ≡ marked (drop (i + 1) l) (set t (get_or l i 0) true)
unfolding marked
one-marked l i t h = rw (drop-cons l i 0, add-one i)

-- A method that met a radio which was not missing leaves nothing, and any other its table.
module _ (o : Option (Unit {0})) (m : Missing) {x : Option Missing} (e : left_by o m ≡ x) where
  pub was-missing : {u : Unit {0}} → o ≡ Some u → x ≡ Some m
  was-missing i = sym e ∙ ap (λ (o : Option (Unit {0})). left_by o m) i

  pub not-missing : o ≡ None → x ≡ None
  not-missing i = sym e ∙ ap (λ (o : Option (Unit {0})). left_by o m) i

pub nothing-left : (o : Option (Unit {0})) (m : Missing) → o ≡ None → left_by o m ≡ None
nothing-left o m i = not-missing o m refl i

-- One radio met in front of more.
first-met : (r : ℕ) (l : List ℕ) (m : Missing) → met (r ∷ l) m ≡ option_and_then (met l) (met (r ∷ []) m)
first-met r l m = met-append (r ∷ []) l m

-- The keepers that are still to be looked at, with what each keeps.
module _ {A : Type 0} (has : A → Bool) where
  abbrev pub left : List A → List ℕ → Missing → Option Missing
  left l rs m = met (shown has l rs) m

  module _ (l k : List A) (rs ss : List ℕ) (m : Missing) (x : A) (r : ℕ) (e : l ≡ x ∷ k) (i : rs ≡ r ∷ ss) where
    pub one-met : has x ≡ true → (u : Missing) → met (r ∷ []) m ≡ Some u → left l rs m ≡ left k ss u
    unfolding shown
    one-met h u z = rw (e, i, h) (first-met r (shown has k ss) m ∙ rw z)

    pub one-over : has x ≡ true → met (r ∷ []) m ≡ None → left l rs m ≡ None
    unfolding shown
    one-over h z = rw (e, i, h) (first-met r (shown has k ss) m ∙ rw z)

    pub none-here : has x ≡ false → left l rs m ≡ left k ss m
    unfolding shown
    none-here h = rw (e, i, h)

  pub all-seen : (l : List A) (rs : List ℕ) (m : Missing) → (l ≡ []) ⊎ (rs ≡ []) → left l rs m ≡ Some m
  unfolding shown met
  all-seen l rs m (inl e) = rw e
  all-seen [] rs m (inr e) = refl
  all-seen (x ∷ l) rs m (inr e) = rw e

-- The radios of a list whose elements are looked at by a part of them.
pub shown-map : {A B : Type 0} (has : A → Bool) (f : B → A) (l : List B) (rs : List ℕ)
    → shown has (map f l) rs ≡ shown (λ x. has (f x)) l rs
unfolding shown
shown-map has f [] rs = refl
shown-map has f (x ∷ l) [] = refl
shown-map has f (x ∷ l) (r ∷ rs) =
    ap (λ (k : List ℕ). cond (has (f x)) (r ∷ k) k) (shown-map has f l rs)

-- The radios of a record: those with the parties, at the places and in the store.
module _ (slots : List PartySlot) (places : List PlaceSlot) (q : Pool) (m : Missing) where
  abbrev pub with_parties : Missing → Option Missing
  with_parties u = met (shown (λ s. has_radio s.phase) slots q.hands) u

  abbrev pub at_places : Missing → Option Missing
  at_places u = met (shown (λ s. is_permit s.place) places q.laid) u

  abbrev rest : List ℕ
  rest = shown is_permit (places_of places) q.laid ++ stored_in q

  parties-first : met (radios_in slots places q) m ≡ option_and_then (met rest) (with_parties m)
  unfolding radios_in
  parties-first =
      met-append (shown has_radio (phases_of slots) q.hands) rest m
      ∙ ap (λ (l : List ℕ). option_and_then (met rest) (met l m)) (shown-map has_radio (λ (s : PartySlot). s.phase) slots q.hands)

  places-next : (u : Missing) → met rest u ≡ option_and_then (met (stored_in q)) (at_places u)
  places-next u =
      met-append (shown is_permit (places_of places) q.laid) (stored_in q) u
      ∙ ap (λ (l : List ℕ). option_and_then (met (stored_in q)) (met l u)) (shown-map is_permit (λ (s : PlaceSlot). s.place) places q.laid)

  pub over-with-parties : with_parties m ≡ None → met (radios_in slots places q) m ≡ None
  over-with-parties e = parties-first ∙ rw e

  module _ (u : Missing) (e : with_parties m ≡ Some u) where
    pub over-at-places : at_places u ≡ None → met (radios_in slots places q) m ≡ None
    over-at-places i = parties-first ∙ rw e (places-next u ∙ rw i)

    pub at-last-stored : (v : Missing) → at_places u ≡ Some v → met (radios_in slots places q) m ≡ met (stored_in q) v
    at-last-stored v i = parties-first ∙ rw e (places-next u ∙ rw i)

-- The n radios of a ring from index i on: one, and none.
pub ring-one : (l : List ℕ) (f n i : ℕ) → i < n
    → ring_from l (f + i) (n - i) ≡ get_or l ((f % STORE + i % STORE) % STORE) 0 ∷ ring_from l (f + (i + 1)) (n - (i + 1))
unfolding ring_from
ring-one l f n i h =
    let e : n - i ≡ suc (n - (i + 1)) = omega arith in
    let s : suc (f + i) ≡ f + (i + 1) = omega arith in
    let k : (f % STORE + i % STORE) % STORE ≡ (f + i) % STORE = omega arith in
    ap (ring_from l (f + i)) e ∙ rw (s, k)

pub ring-met : (l : List ℕ) (f n i r : ℕ) (m u : Missing) → i < n → r ≡ get_or l ((f % STORE + i % STORE) % STORE) 0
    → met (r ∷ []) m ≡ Some u → met (ring_from l (f + i) (n - i)) m ≡ met (ring_from l (f + (i + 1)) (n - (i + 1))) u
ring-met l f n i r m u h e z =
    ap (λ (k : List ℕ). met k m) (ring-one l f n i h)
    ∙ first-met _ (ring_from l (f + (i + 1)) (n - (i + 1))) m ∙ rw (sym e, z)

pub ring-over : (l : List ℕ) (f n i r : ℕ) (m : Missing) → i < n → r ≡ get_or l ((f % STORE + i % STORE) % STORE) 0
    → met (r ∷ []) m ≡ None → met (ring_from l (f + i) (n - i)) m ≡ None
ring-over l f n i r m h e z =
    ap (λ (k : List ℕ). met k m) (ring-one l f n i h)
    ∙ first-met _ (ring_from l (f + (i + 1)) (n - (i + 1))) m ∙ rw (sym e, z)

pub ring-seen : (l : List ℕ) (f n i : ℕ) (m : Missing) → n ≤ i → met (ring_from l (f + i) (n - i)) m ≡ Some m
unfolding ring_from met
ring-seen l f n i m h = let e : n - i ≡ 0 = omega arith in rw e

-- The radios of a record are bytes.
bytes-shown : {A : Type 0} (has : A → Bool) (l : List A) (rs : List ℕ) → ((k : ℕ) → get_or rs k 0 < 256) → Bytes (shown has l rs)
unfolding shown Bytes
bytes-shown has [] rs y = tt
bytes-shown has (x ∷ l) [] y = tt
bytes-shown has (x ∷ l) (r ∷ rs) y = go (has x) (bytes-shown has l rs (λ k. y (suc k)))
  where
    go : (c : Bool) → Bytes (shown has l rs) → Bytes (cond c (r ∷ shown has l rs) (shown has l rs))
    go true rest = (y 0, rest)
    go false rest = rest

bytes-ring : (l : List ℕ) (i n : ℕ) → ((k : ℕ) → get_or l k 0 < 256) → Bytes (ring_from l i n)
unfolding ring_from Bytes
bytes-ring l i zero y = tt
bytes-ring l i (suc n) y = (y (i % STORE), bytes-ring l (suc i) n y)

bytes-append : (a b : List ℕ) → Bytes a → Bytes b → Bytes (a ++ b)
unfolding Bytes
bytes-append [] b x y = y
bytes-append (r ∷ a) b x y = (x.0, bytes-append a b x.1 y)

pub bytes-take : (n : ℕ) (l : List ℕ) → ((k : ℕ) → get_or l k 0 < 256) → Bytes (take n l)
unfolding Bytes
bytes-take zero l y = tt
bytes-take (suc n) [] y = tt
bytes-take (suc n) (r ∷ l) y = (y 0, bytes-take n l (λ k. y (suc k)))

pub bytes-all : (slots : List PartySlot) (places : List PlaceSlot) (q : Pool) → ((k : ℕ) → get_or q.hands k 0 < 256)
    → ((k : ℕ) → get_or q.laid k 0 < 256) → ((k : ℕ) → get_or q.store k 0 < 256) → Bytes (radios_in slots places q)
unfolding radios_in
bytes-all slots places q a b c =
    bytes-append _ _ (bytes-shown has_radio (phases_of slots) q.hands a)
    (bytes-append _ _ (bytes-shown is_permit (places_of places) q.laid b) (bytes-ring q.store q.first q.stored c))
