-- The one case analysis over phases, and the one over places: every fact about all of them is taken from here. But for
-- the first of each none is named, so that a phase more is no line here.
use Prim.Native.Nat.{ℕ}
use mathlib.Core.Path.{◌≡◌, refl, sym, ap, subst, ◌∙◌}
use mathlib.Core.Bool.{Bool, true, false, cond, ◌||◌}
use mathlib.Core.List.{List, [], ◌∷◌, map}
use native.Mathlib.Omega.{arith}
use borrow.Author.Tests.{eqb-true}
use lib.Dec.{eqb}
use lib.ListN.{length, replicate, get_or}
use mir.Syntax.{w8, w32}
use types.Run.{OneOf}
use denote.Enum.Declared.{tag_of}
use Rattle.hub.specs.contracts.record.Phase as phase
use Rattle.hub.specs.contracts.record.Place as place
use Rattle.hub.specs.declared.record.Phase.{Phase}
use Rattle.hub.specs.declared.record.Phase.TheVariants.{Free}
use Rattle.hub.specs.declared.record.Place.{Place}
use Rattle.hub.specs.declared.record.Place.TheVariants.{Empty}
use Rattle.hub.specs.Basics.{among}
use Rattle.hub.specs.Phases.{by_ticket, by_waiter, is_one_of, is_place_of, place_rank, rank, ticket_of}
use Rattle.hub.proofs.Laws.Enums.{Each, alike, arm, carries_number, every_value, number_in, variant_found, variants_of}

-- The phases, each with ticket t if it has one.
abbrev pub phases_with : ℕ → List Phase
phases_with = variants_of w32 (carries_number phase.the_parts) phase.the_make

ticket_is : (x : Phase) → number_in w32 (carries_number phase.the_parts) (phase.as_values x) ≡ ticket_of x
ticket_is =
    alike phases_with Free (tag_of phase.the_type) (λ x. number_in w32 (carries_number phase.the_parts) (phase.as_values x))
    (variant_found w32 (carries_number phase.the_parts) phase.the_make phase.as_values phase.the_eta Free) _ ticket_of refl (λ t. refl)

phase-back : (x : Phase) → get_or (phases_with (ticket_of x)) (tag_of phase.the_type x) Free ≡ x
phase-back x =
    ap (λ (t : ℕ). get_or (phases_with t) (tag_of phase.the_type x) Free) (sym (ticket_is x))
    ∙ variant_found w32 (carries_number phase.the_parts) phase.the_make phase.as_values phase.the_eta Free x

pub phase-arm : {A : Type 0} (ks : List ℕ) (f : Phase → A) {a : A} (x : Phase)
    → map (λ k. f (get_or (phases_with (ticket_of x)) k Free)) ks ≡ replicate (length ks) a
    → OneOf ks (tag_of phase.the_type x) → a ≡ f x
phase-arm = arm phases_with Free (tag_of phase.the_type) ticket_of phase-back

pub every-phase : (P : Phase → Type 0) → ((t : ℕ) → Each P (phases_with t)) → (x : Phase) → P x
every-phase P e = every_value phases_with Free (tag_of phase.the_type) ticket_of phase-back P (e 0).0 e

pub phases-alike : {A : Type 0} (f h : Phase → A)
    → ((t : ℕ) → map f (phases_with t) ≡ map h (phases_with t)) → (x : Phase) → f x ≡ h x
phases-alike f h e =
    alike phases_with Free (tag_of phase.the_type) ticket_of phase-back f h
    (ap (λ l. get_or l 0 (f Free)) (e 0)) e

-- A phase of rank k.
pub of-rank : (x : Phase) → get_or (phases_with (ticket_of x)) (rank x) Free ≡ x
of-rank = phases-alike (λ x. get_or (phases_with (ticket_of x)) (rank x) Free) (λ x. x) (λ t. refl)

pub one_of : (f x : Phase) → is_one_of (f ∷ []) x ≡ true
    → x ≡ get_or (phases_with (ticket_of x)) (rank f) Free
unfolding is_one_of
one_of f x e =
    sym (of-rank x)
    ∙ ap (λ (k : ℕ). get_or (phases_with (ticket_of x)) k Free) (eqb-true (rank x) (rank f) (alone _ e))
  where
    alone : (b : Bool) → b || false ≡ true → b ≡ true
    alone true i = i
    alone false i = i

-- What holds of each phase of a list, whatever its ticket, holds of every phase that is one of them.
pub each_of : (P : Phase → Type 0) (l : List Phase)
    → ((t : ℕ) → Each (λ y. P (get_or (phases_with t) (rank y) Free)) l) → (x : Phase) → is_one_of l x ≡ true → P x
unfolding is_one_of
each_of P l e x = at l (e (ticket_of x))
  where
    at : (l : List Phase) → Each (λ y. P (get_or (phases_with (ticket_of x)) (rank y) Free)) l
        → among (map rank l) (rank x) ≡ true → P x
    at [] a z = let y : ◌≡◌ {A = ℕ} 0 1 = cc in let w : ⊥ = omega arith in absurd w
    at (y ∷ l) a z = go (eqb (rank x) (rank y)) refl z (at l a.1)
      where
        go : (b : Bool) → eqb (rank x) (rank y) ≡ b → b || among (map rank l) (rank x) ≡ true
            → (among (map rank l) (rank x) ≡ true → P x) → P x
        go true i w further =
            subst P
            (ap (λ (k : ℕ). get_or (phases_with (ticket_of x)) k Free) (sym (eqb-true (rank x) (rank y) i)) ∙ of-rank x)
            a.0
        go false i w further = further w

-- What is made of a ticket depends on whether there is one, and on the ticket.
abbrev pub ticketed : Phase → Bool
ticketed = by_ticket false (λ t. true)

pub by-ticket : {A : Type 0} (z : A) (g : ℕ → A) (x : Phase)
    → by_ticket z g x ≡ cond (ticketed x) (g (ticket_of x)) z
by-ticket z g =
    phases-alike (by_ticket z g) (λ x. cond (ticketed x) (g (ticket_of x)) z) (λ t. refl)

-- The tags of all phases but these.
abbrev without : List ℕ → List ℕ → List ℕ
without ks [] = []
without ks (x ∷ l) = cond (among ks x) (without ks l) (x ∷ without ks l)

abbrev pub all_but : List ℕ → List ℕ
all_but ks = without ks (map rank (phases_with 0))

-- The phases that a list has not.
abbrev pub all_others : List Phase → List Phase
all_others l = map (λ k. get_or (phases_with 0) k Free) (all_but (map rank l))

-- The places, with party q where somebody waits; that party.
abbrev pub places_with : ℕ → List Place
places_with = variants_of w8 (carries_number place.the_parts) place.the_make

abbrev pub waiter_of : Place → ℕ
waiter_of = by_waiter 0 (λ q. q)

waiter-is : (a : Place) → number_in w8 (carries_number place.the_parts) (place.as_values a) ≡ waiter_of a
waiter-is =
    alike places_with Empty (tag_of place.the_type) (λ a. number_in w8 (carries_number place.the_parts) (place.as_values a))
    (variant_found w8 (carries_number place.the_parts) place.the_make place.as_values place.the_eta Empty) _ waiter_of refl (λ q. refl)

place-back : (a : Place) → get_or (places_with (waiter_of a)) (tag_of place.the_type a) Empty ≡ a
place-back a =
    ap (λ (q : ℕ). get_or (places_with q) (tag_of place.the_type a) Empty) (sym (waiter-is a))
    ∙ variant_found w8 (carries_number place.the_parts) place.the_make place.as_values place.the_eta Empty a

pub place-arm : {A : Type 0} (ks : List ℕ) (f : Place → A) {a : A} (x : Place)
    → map (λ k. f (get_or (places_with (waiter_of x)) k Empty)) ks ≡ replicate (length ks) a
    → OneOf ks (tag_of place.the_type x) → a ≡ f x
place-arm = arm places_with Empty (tag_of place.the_type) waiter_of place-back

pub every-place : (P : Place → Type 0) → ((q : ℕ) → Each P (places_with q)) → (a : Place) → P a
every-place P e = every_value places_with Empty (tag_of place.the_type) waiter_of place-back P (e 0).0 e

pub places-alike : {A : Type 0} (f h : Place → A)
    → ((q : ℕ) → map f (places_with q) ≡ map h (places_with q)) → (a : Place) → f a ≡ h a
places-alike f h e =
    alike places_with Empty (tag_of place.the_type) waiter_of place-back f h
    (ap (λ l. get_or l 0 (f Empty)) (e 0)) e

pub of-place-rank : (a : Place) → get_or (places_with (waiter_of a)) (place_rank a) Empty ≡ a
of-place-rank =
    places-alike (λ a. get_or (places_with (waiter_of a)) (place_rank a) Empty) (λ a. a) (λ q. refl)

pub place_of : (b a : Place) → is_place_of (b ∷ []) a ≡ true
    → a ≡ get_or (places_with (waiter_of a)) (place_rank b) Empty
unfolding is_place_of
place_of b a e =
    sym (of-place-rank a)
    ∙ ap (λ (k : ℕ). get_or (places_with (waiter_of a)) k Empty) (eqb-true (place_rank a) (place_rank b) (alone _ e))
  where
    alone : (c : Bool) → c || false ≡ true → c ≡ true
    alone true i = i
    alone false i = i
