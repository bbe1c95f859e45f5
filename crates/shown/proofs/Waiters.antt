-- Who waits, in the order of the numbers, and what one changed phase does to it. All of it is about a list of
-- phases.
use Prim.Native.Nat.{ℕ, suc, ◌+◌, ◌-◌, ◌≤◌, ◌<◌}
use mathlib.Core.Path.{◌≡◌, refl, sym, ap, ap₂, ◌∙◌}
use mathlib.Core.Bool.{Bool, true, false, ◌&&◌}
use mathlib.Core.List.{List, [], ◌∷◌, ◌++◌}
use mathlib.Core.Logic.{◌≢◌}
use native.Mathlib.Decide.{ℕ_discrete, dec_le}
use native.Mathlib.Omega.{arith}
use borrow.Author.Tests.{eq-eqb, eqb-true}
use lib.Dec.{eqb}
use lib.ListN.{length, set, get_or-eq_default}
use lib.Seq.{get_or-set_same, get_or-set_other}
use Rattle.hub.specs.declared.record.Phase.{Phase}
use Rattle.hub.specs.Basics.{among}
use Rattle.hub.specs.Ledger.{phase_in}
use Rattle.hub.specs.Phases.{is_one_of, is_waiting, ticket_of}
use Rattle.hub.proofs.Laws.Bools.{first, second}
use Rattle.hub.proofs.Laws.Phases.{one_of}
use Rattle.screen.specs.Moves.{without}
use Rattle.screen.proofs.Laws.Lists.{among-back, among-here}
use Rattle.shown.specs.Parties.{parties_from, waits_with, waiters_from}
use Rattle.shown.proofs.Parties.{parties-set, parties-none, parties-one}
use Rattle.shown.proofs.Parties.{without-behind, waiters-split, waiters-same, waiters-none}
use Rattle.shown.proofs.Parties.{waiters-without}

-- A phase waits with t exactly if it is waiting t.
waits-is : (t : ℕ) (f : Phase) → waits_with t f ≡ true → f ≡ Phase.Waiting t
waits-is t f e =
    one_of (Phase.Waiting 0) f (first (is_waiting f) _ e)
    ∙ ap Phase.Waiting (eqb-true (ticket_of f) t (second (is_waiting f) _ e))

waits-not : (t : ℕ) (f : Phase) → (f ≡ Phase.Waiting t → ⊥) → waits_with t f ≡ false
waits-not t f n = go (waits_with t f) refl
  where
    go : (b : Bool) → waits_with t f ≡ b → waits_with t f ≡ false
    go true e = absurd (n (waits-is t f e))
    go false e = e

waits-self : (t : ℕ) (f : Phase) → f ≡ Phase.Waiting t → waits_with t f ≡ true
unfolding is_one_of
waits-self t f e = ap (waits_with t) e ∙ eq-eqb t t refl

-- A phase that does not wait, waits with no number.
waits-never : (t : ℕ) (f : Phase) → is_waiting f ≡ false → waits_with t f ≡ false
waits-never t f e = ap (λ (b : Bool). b && eqb (ticket_of f) t) e

-- Each number is one party's; every number that is waited with is from r on and below n.
abbrev pub Apart : List Phase → Type 0
Apart l = (p q t : ℕ) → phase_in l p ≡ Phase.Waiting t → phase_in l q ≡ Phase.Waiting t → p ≡ q

abbrev pub Between : ℕ → ℕ → List Phase → Type 0
Between r n l = (p t : ℕ) → phase_in l p ≡ Phase.Waiting t → (r ≤ t) × (t < n)

module _ (l : List Phase) where
  -- Whoever waits has a slot.
  inside : (p t : ℕ) → phase_in l p ≡ Phase.Waiting t → p < length l
  inside p t e = go (dec_le (suc p) (length l))
    where
      go : Dec (suc p ≤ length l) → p < length l
      go (yes i) = i
      go (no i) =
          let z : Phase.Waiting t ≡ Phase.Free = sym e ∙ get_or-eq_default l Phase.Free (omega arith) in
          let y : ◌≡◌ {A = ℕ} 0 1 = cc in
          omega arith

  -- Whose phase is changed without waiting before or after, does not matter to the others.
  pub stays : (p : ℕ) (x : Phase) → is_waiting x ≡ false → is_waiting (phase_in l p) ≡ false
      → (t n : ℕ) → waiters_from t n (set l p x) ≡ waiters_from t n l
  stays p x i j t n =
      waiters-same t n (set l p x) l
      (λ u a b. parties-set 0 (waits_with u) l p x (waits-never u x i ∙ sym (waits-never u (phase_in l p) j)))

  -- A party that waits with t.
  module _ (apart : Apart l) (p t : ℕ) (e : phase_in l p ≡ Phase.Waiting t) where
    its-row : parties_from 0 (waits_with t) l ≡ p ∷ []
    unfolding is_one_of
    its-row =
        parties-one 0 (waits_with t) l p p (omega arith) refl (waits-self t _ e)
        (λ q d. waits-not t (phase_in l q) (λ z. d (apart q p t z e)))

    -- those before it, itself, and those behind it
    stands-in : (n : ℕ) → t < n
        → waiters_from 0 n l ≡ waiters_from 0 t l ++ p ∷ waiters_from (suc t) (n - suc t) l
    unfolding waiters_from
    stands-in n i =
        waiters-split 0 t (suc (n - suc t)) n t l (omega arith) (omega arith)
        ∙ ap (λ (r : List ℕ). waiters_from 0 t l ++ (r ++ waiters_from (suc t) (n - suc t) l)) its-row

    -- it leaves
    module _ (x : Phase) (j : is_waiting x ≡ false) where
      other_row : (u : ℕ) → u ≢ t
          → parties_from 0 (waits_with u) (set l p x) ≡ parties_from 0 (waits_with u) l
      other_row u d =
          parties-set 0 (waits_with u) l p x
          (waits-never u x j ∙ sym (waits-not u (phase_in l p) (λ z. d (same (sym z ∙ e)))))
        where
          same : Phase.Waiting u ≡ Phase.Waiting t → u ≡ t
          same z = cc

      empty-row : parties_from 0 (waits_with t) (set l p x) ≡ []
      empty-row =
          parties-none 0 (waits_with t) (set l p x) (λ q. go q (ℕ_discrete q p))
        where
          go : (q : ℕ) → Dec (q ≡ p) → waits_with t (phase_in (set l p x) q) ≡ false
          go q (yes z) =
              ap (waits_with t) (ap (phase_in (set l p x)) z ∙ get_or-set_same l p x Phase.Free (inside p t e))
              ∙ waits-never t x j
          go q (no d) =
              ap (waits_with t) (get_or-set_other l p q x Phase.Free d)
              ∙ waits-not t (phase_in l q) (λ z. d (apart q p t z e))

      gone : (n : ℕ) → t < n
          → waiters_from 0 n (set l p x) ≡ waiters_from 0 t l ++ waiters_from (suc t) (n - suc t) l
      unfolding waiters_from
      gone n i =
          waiters-split 0 t (suc (n - suc t)) n t (set l p x) (omega arith) (omega arith)
          ∙ ap₂ ◌++◌
          (waiters-same 0 t (set l p x) l (λ u a b. other_row u (omega arith)))
          (ap₂ ◌++◌ empty-row
          (waiters-same (suc t) (n - suc t) (set l p x) l (λ u a b. other_row u (omega arith))))

      -- the others keep their order
      pub leaves : (n : ℕ) → t < n → waiters_from 0 n (set l p x) ≡ without p (waiters_from 0 n l)
      leaves n i =
          gone n i
          ∙ sym (ap (without p) (stands-in n i)
          ∙ without-behind (waiters_from 0 t l) p (waiters_from (suc t) (n - suc t) l)
          (waiters-without 0 t l p
          (λ u a b. waits-not u (phase_in l p) (λ z. omega (arith, same u (sym z ∙ e))))))
        where
          same : (u : ℕ) → Phase.Waiting u ≡ Phase.Waiting t → u ≡ t
          same u z = cc

    -- it is among those that wait
    is_among : (n : ℕ) → t < n → among (waiters_from 0 n l) p ≡ true
    is_among n i =
        ap (λ (r : List ℕ). among r p) (stands-in n i)
        ∙ among-back (waiters_from 0 t l) (p ∷ waiters_from (suc t) (n - suc t) l) p
        (among-here (waiters_from (suc t) (n - suc t) l) p p refl)

    -- and the first of them, if nobody waits with a lower number
    pub is-first : (n : ℕ) → Between t n l → waiters_from 0 n l ≡ p ∷ waiters_from (suc t) (n - suc t) l
    is-first n b =
        stands-in n (b p t e).1
        ∙ ap (λ (r : List ℕ). r ++ p ∷ waiters_from (suc t) (n - suc t) l)
        (waiters-none 0 t l
        (λ u i j. parties-none 0 (waits_with u) l
        (λ q. waits-not u (phase_in l q) (λ z. omega (arith, b q u z)))))

  -- Among those that wait are the parties that wait.
  pub among-waiters : Apart l → (r n : ℕ) → Between r n l → (p : ℕ)
      → among (waiters_from 0 n l) p ≡ is_waiting (phase_in l p)
  among-waiters apart r n b p = go (is_waiting (phase_in l p)) refl
    where
      go : (c : Bool) → is_waiting (phase_in l p) ≡ c → among (waiters_from 0 n l) p ≡ c
      go true z =
          let e : phase_in l p ≡ Phase.Waiting (ticket_of (phase_in l p)) = one_of (Phase.Waiting 0) _ z in
          is_among apart p _ e n (b p _ e).1
      go false z = waiters-without 0 n l p (λ u i j. waits-never u (phase_in l p) z)

  -- Where nobody waits there is no waiter.
  pub nobody-waits : (n : ℕ) → ((p : ℕ) → is_waiting (phase_in l p) ≡ false) → waiters_from 0 n l ≡ []
  nobody-waits n e =
      waiters-none 0 n l
      (λ u i j. parties-none 0 (waits_with u) l (λ q. waits-never u (phase_in l q) (e q)))

  -- A party comes, with the next number.
  pub comes : (r n : ℕ) → Between r n l → (p : ℕ) → p < length l → is_waiting (phase_in l p) ≡ false
      → waiters_from 0 (n + 1) (set l p (Phase.Waiting n)) ≡ waiters_from 0 n l ++ p ∷ []
  unfolding waiters_from is_one_of
  comes r n b p i j =
      waiters-split 0 n 1 (n + 1) n (set l p (Phase.Waiting n)) refl (omega arith)
      ∙ ap₂ ◌++◌ before (ap (λ (r : List ℕ). r ++ []) last)
    where
      before : waiters_from 0 n (set l p (Phase.Waiting n)) ≡ waiters_from 0 n l
      before =
          waiters-same 0 n (set l p (Phase.Waiting n)) l
          (λ u a c. parties-set 0 (waits_with u) l p (Phase.Waiting n)
          (waits-not u (Phase.Waiting n) (λ z. omega (arith, same u z))
          ∙ sym (waits-never u (phase_in l p) j)))
        where
          same : (u : ℕ) → Phase.Waiting n ≡ Phase.Waiting u → n ≡ u
          same u z = cc

      last : parties_from 0 (waits_with n) (set l p (Phase.Waiting n)) ≡ p ∷ []
      last =
          parties-one 0 (waits_with n) (set l p (Phase.Waiting n)) p p (omega arith) refl
          (waits-self n _ (get_or-set_same l p (Phase.Waiting n) Phase.Free i))
          (λ q d. ap (waits_with n) (get_or-set_other l p q (Phase.Waiting n) Phase.Free d)
          ∙ waits-not n (phase_in l q) (λ z. omega (arith, b q n z)))
