-- What "a record that fits" asks of the numbers, of tickets and of places, on whatever tracks them.
use Prim.Native.Nat.{ℕ, ◌+◌, ◌≤◌, ◌<◌}
use mathlib.Core.Path.{◌≡◌, refl, sym, ap, subst, ◌∙◌}
use mathlib.Core.Bool.{Bool, true, false, cond, ◌&&◌, ◌||◌}
use mathlib.Core.List.{List, [], ◌∷◌}
use native.Mathlib.Omega.{arith}
use borrow.Author.Tests.{lt-ltb, le-leb, ltb-false, eq-eqb}
use lib.Dec.{ltb, leb, eqb}
use Rattle.hub.specs.declared.record.Phase.{Phase}
use Rattle.hub.specs.declared.record.Phase.TheVariants.{Suspending, Resuming, ResumingAt}
use Rattle.hub.specs.declared.record.Place.{Place}
use Rattle.hub.specs.declared.record.Place.TheVariants.{Empty, Waiting as WaitedBy, Permit}
use Rattle.hub.specs.declared.record.Place.TheVariants.{Cancelled, Refused, Done}
use Rattle.hub.specs.declared.record.PlaceSlot.{PlaceSlot}
use Rattle.hub.specs.Basics.{all_of, implies, up_to32}
use Rattle.hub.specs.Fits.{in_window, stands_at}
use Rattle.hub.specs.Ledger.{phase_in}
use Rattle.hub.specs.Phases.{by_waiter, is_free, is_one_of, stands, ticket_of}
use Rattle.hub.specs.Record.{MAX_BEGUN}
use Rattle.hub.specs.Ring.{PLACES, read_place}
use Rattle.hub.proofs.Laws.Bools.{both, passed, none}
use Rattle.hub.proofs.Laws.Phases.{one_of}
use Rattle.hub.proofs.Invariant.Weights.{same, same_self, same-eq, pick, suspending, carrying, own, hand, stand}
use Rattle.hub.proofs.Invariant.Tickets.{one_in, owner-below, hand-below, near, drawing-most, carried-most}
use Rattle.hub.proofs.Window.Tracked.{Tracked, low, high, has-place}

-- A clause for some phases.
pub where-true : (b c : Bool) → (b ≡ true → c ≡ true) → implies b c ≡ true
where-true true c f = f refl
where-true false c f = refl

pub up-to-32 : (n : ℕ) → 1 ≤ n → n ≤ 32 → up_to32 n ≡ true
up-to-32 n a b = both _ _ (le-leb 1 n a) (le-leb n 32 b)

-- Whoever stands at t in the count stands at t in the test.
stands_at_lem : (t : ℕ) (f : Phase) → stand t f ≡ 1 → stands_at f t ≡ true
unfolding pick
stands_at_lem t f = go (stands f)
  where
    go : (b : Bool) → cond b (same (ticket_of f) t) 0 ≡ 1 → b && eqb (ticket_of f) t ≡ true
    go true e = eq-eqb (ticket_of f) t (same-eq (ticket_of f) t (omega arith))
    go false e = let z : ⊥ = omega arith in absurd z

module _ {l : List Phase} {g : ℕ → PlaceSlot} {o : ℕ} {a : List PlaceSlot} {n i r b q e : ℕ}
    (x : Tracked l g o a n i r b q e) where
  -- The figures that both have, as their clauses end.
  pub numbers_fit : all_of (leb b MAX_BEGUN ∷ leb i MAX_BEGUN ∷ leb r MAX_BEGUN ∷ leb o i ∷ leb o r
      ∷ leb i (o + PLACES) ∷ leb r (o + PLACES) ∷ []) ≡ true
  numbers_fit =
      let few = near x.tickets in
      let above = low x in
      let below = high x in
      passed _ _ (le-leb b MAX_BEGUN x.tickets.begun)
      (passed _ _ (le-leb i MAX_BEGUN (omega arith))
      (passed _ _ (le-leb r MAX_BEGUN (omega arith))
      (passed _ _ (le-leb o i (omega arith))
      (passed _ _ (le-leb o r (omega arith))
      (passed _ _ (le-leb i (o + PLACES) (omega arith))
      (passed _ _ (le-leb r (o + PLACES) (omega arith)) none))))))

  -- A ticket with an owner or a hand is in the window, and below the next of its kind.
  in_window_lem : (p t u : ℕ) (f : Phase) → phase_in l p ≡ f → 1 ≤ own t f + hand t f → t < u
      → in_window o u t ≡ true
  unfolding in_window
  in_window_lem p t u f z y c =
      let w = has-place x p t (subst (λ (d : Phase). 1 ≤ own t d + hand t d) (sym z) y) in
      both _ _ (both _ _ (le-leb o t w.0) (lt-ltb t (o + PLACES) w.1)) (lt-ltb t u c)

  -- A party's ticket, clause by clause.
  pub ticket-fits : (p : ℕ) (f : Phase) → phase_in l p ≡ f
      → all_of
      (implies
      (is_one_of
      (Phase.Ticketed 0 ∷ Phase.TicketedMarked 0 ∷ Phase.Waiting 0 ∷ Phase.Aborting 0 ∷ Phase.Cancelling 0
      ∷ Phase.Refusing 0 ∷ []) f)
      (in_window o i (ticket_of f))
      ∷ implies (is_one_of (ResumingAt 0 ∷ []) f) (in_window o r (ticket_of f))
      ∷ implies (is_one_of (Suspending ∷ Phase.SuspendingMarked ∷ []) f) (ltb i (o + PLACES))
      ∷ implies (is_one_of (Resuming ∷ []) f) (ltb r (o + PLACES))
      ∷ []) ≡ true
  unfolding pick is_one_of
  ticket-fits p f z =
      passed _ _ (where-true _ _ owns)
      (passed _ _ (where-true _ _ hands)
      (passed _ _ (where-true _ _ draws) (passed _ _ (where-true _ _ carries) none)))
    where
      owns : is_one_of (Phase.Ticketed 0 ∷ Phase.TicketedMarked 0 ∷ Phase.Waiting 0 ∷ Phase.Aborting 0
          ∷ Phase.Cancelling 0 ∷ Phase.Refusing 0 ∷ []) f ≡ true
          → in_window o i (ticket_of f) ≡ true
      owns y =
          let t = ticket_of f in
          let w : own t f ≡ same t t = ap (λ (d : Bool). cond d (same t t) 0) y in
          let v : 1 ≤ own t f = omega (arith, w, same_self t) in
          in_window_lem p t i f z (omega arith) (owner-below x.tickets p t f z v)

      hands : is_one_of (ResumingAt 0 ∷ []) f ≡ true → in_window o r (ticket_of f) ≡ true
      hands y =
          let t = ticket_of f in
          let z' = z ∙ one_of (ResumingAt 0) f y in
          in_window_lem p t r (ResumingAt t) z' (omega (arith, same_self t)) (hand-below x.tickets p t z')

      draws : is_one_of (Suspending ∷ Phase.SuspendingMarked ∷ []) f ≡ true → ltb i (o + PLACES) ≡ true
      draws y =
          let s : suspending f ≡ 1 = ap (λ (d : Bool). cond d 1 0) y in
          lt-ltb i (o + PLACES)
          (omega (arith, one_in x.tickets suspending p f refl z, s, drawing-most x.tickets, x.room))

      carries : is_one_of (Resuming ∷ []) f ≡ true → ltb r (o + PLACES) ≡ true
      carries y =
          lt-ltb r (o + PLACES)
          (omega (
            arith,
            one_in x.tickets carrying p Resuming refl (z ∙ one_of Resuming f y),
            x.room,
            carried-most x.tickets,
            drawing-most x.tickets,
          ))

  -- Parties from n up are free.
  pub absent-free : (p : ℕ) (f : Phase) → f ≡ phase_in l p → ltb p n || is_free f ≡ true
  unfolding is_one_of
  absent-free p f z = go (ltb p n) refl
    where
      go : (c : Bool) → ltb p n ≡ c → c || is_free f ≡ true
      go true y = refl
      go false y = ap is_free (z ∙ x.tickets.beyond p (ltb-false p n y))

  -- The party of a waiting place stands there, whatever its phase is read from.
  pub waiter-stands : (read : ℕ → Phase) → ((p : ℕ) → read p ≡ phase_in l p) → (t : ℕ) → o ≤ t → t < o + PLACES
      → by_waiter true (λ p. stands_at (read p) t) (read_place a t) ≡ true
  waiter-stands read z t y w =
      ap (λ (c : PlaceSlot). by_waiter true (λ p. stands_at (read p) t) c.place) (sym (x.window.within t y w))
      ∙ go (g t).place refl
    where
      go : (c : Place) → (g t).place ≡ c → by_waiter true (λ p. stands_at (read p) t) c ≡ true
      go Empty d = refl
      go (WaitedBy p) d =
          ap (λ (f : Phase). stands_at f t) (z p) ∙ stands_at_lem t (phase_in l p) (x.tickets.named t p d)
      go Permit d = refl
      go Cancelled d = refl
      go Refused d = refl
      go Done d = refl
