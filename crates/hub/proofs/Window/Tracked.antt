-- Places as a window of cells, beside the phases and the numbers: where a ticket's place is, and that both
-- read alike. Nothing here is about a hub, so that whatever keeps its tickets so uses the same laws.
use Prim.Native.Nat.{ℕ, zero, suc, ◌+◌, ◌≤◌, ◌<◌}
use mathlib.Core.Path.{◌≡◌, refl, sym, ap, subst, subst₂, ◌∙◌}
use mathlib.Core.Bool.{Bool, true, false, cond}
use mathlib.Core.List.{List, [], ◌∷◌}
use native.Mathlib.Decide.{dec_le}
use native.Mathlib.Omega.{arith}
use borrow.Author.Tests.{leb-false}
use lib.Dec.{leb}
use lib.ListN.{length}
use Rattle.hub.specs.declared.record.Phase.{Phase}
use Rattle.hub.specs.declared.record.PlaceSlot.{PlaceSlot}
use Rattle.hub.specs.Basics.{bit, count, weight}
use Rattle.hub.specs.Ledger.{phase_in}
use Rattle.hub.specs.Phases.{by_ticket, draws_ticket, is_one_of, is_place_of, ticket_of}
use Rattle.hub.specs.Queue.{write}
use Rattle.hub.specs.Record.{empty_seat}
use Rattle.hub.specs.Refinement.{Window}
use Rattle.hub.specs.Ring.{PLACES, read_seat, write_seat}
use Rattle.hub.proofs.Laws.Phases.{by-ticket, ticketed}
use Rattle.hub.proofs.Laws.Seats.{written-size}
use Rattle.hub.proofs.Invariant.Weights.{lt-le, lt-pos, pick, drawing, own, hand, spent, served}
use Rattle.hub.proofs.Invariant.Weights.{count-pick, has-ticket}
use Rattle.hub.proofs.Invariant.Tickets.{Tickets, one_in, drawing-most, resumed-most}
use Rattle.hub.proofs.Window.Ring.{window-write}

-- Places a, with oldest ticket o, track cells g: they are a window of them, phases l and cells keep what
-- concerns tickets, with the numbers that it asks for, and every ticket that may yet be drawn has a place.
pub record Tracked (l : List Phase) (g : ℕ → PlaceSlot) (o : ℕ) (a : List PlaceSlot) (n i r b q e : ℕ)
    : Type 0 where
  pub size : length a ≡ PLACES
  pub window : Window o a g
  pub tickets : Tickets l (λ t. (g t).place) n i r b q e
  pub room : i + weight drawing l ≤ o + PLACES

-- Where the places are not full, one more may ask.
pub room-left : (l : List Phase) (o i : ℕ) → leb (o + PLACES) (i + count draws_ticket l) ≡ false
    → i + weight drawing l + 1 ≤ o + PLACES
room-left l o i z =
    omega (
      arith,
      leb-false (o + PLACES) (i + count draws_ticket l) z,
      count-pick (Phase.Acquiring ∷ Phase.Suspending ∷ Phase.AcquiringMarked ∷ Phase.SuspendingMarked ∷ []) l,
    )

module _ {l : List Phase} {g : ℕ → PlaceSlot} {o : ℕ} {a : List PlaceSlot} {n i r b q e : ℕ}
    (x : Tracked l g o a n i r b q e) where
  -- The oldest ticket has been issued, and drawn to resume: the one before it is done.
  pub low : (o ≤ i) × (o ≤ r)
  unfolding is_place_of
  low = go o refl
    where
      go : (u : ℕ) → o ≡ u → (u ≤ i) × (u ≤ r)
      go zero z = omega arith
      go (suc u) z =
          let c = x.window.before u (omega arith) in (
            lt-pos u i (omega (arith, (x.tickets.at u).owned, ap spent c)),
            lt-pos u r (omega (arith, (x.tickets.at u).handed, ap served c)),
          )

  pub high : (i ≤ o + PLACES) × (r ≤ o + PLACES)
  high = omega (arith, x.room, resumed-most x.tickets, drawing-most x.tickets)

  -- A ticket with an owner or a hand has a place: one that is done has neither.
  pub has-place : (p t : ℕ) → 1 ≤ own t (phase_in l p) + hand t (phase_in l p) → (o ≤ t) × (t < o + PLACES)
  unfolding is_place_of is_one_of pick
  has-place p t y = (go (dec_le o t), below (dec_le 1 (own t (phase_in l p))))
    where
      owner : own t (phase_in l p) ≤ weight (own t) l
      owner = one_in x.tickets (own t) p _ refl refl

      holder : hand t (phase_in l p) ≤ weight (hand t) l
      holder = one_in x.tickets (hand t) p _ refl refl

      go : Dec (o ≤ t) → o ≤ t
      go (yes z) = z
      go (no z) =
          let c = x.window.before t (omega arith) in
          omega (
            arith,
            owner,
            holder,
            (x.tickets.at t).owned,
            (x.tickets.at t).handed,
            ap spent c,
            ap served c,
            lt-le t i,
            lt-le t r,
          )

      below : Dec (1 ≤ own t (phase_in l p)) → t < o + PLACES
      below (yes z) = omega (arith, high, lt-pos t i (omega (arith, owner, (x.tickets.at t).owned)))
      below (no z) = omega (arith, high, lt-pos t r (omega (arith, holder, (x.tickets.at t).handed)))

  -- The ticket of a party's phase has a place.
  pub ticket-place : (p : ℕ) (f : Phase) → phase_in l p ≡ f → ticketed f ≡ true
      → (o ≤ ticket_of f) × (ticket_of f < o + PLACES)
  ticket-place p f w z =
      has-place p (ticket_of f)
      (subst (λ (y : Phase). 1 ≤ own (ticket_of f) y + hand (ticket_of f) y) (sym w)
      (omega (arith, has-ticket f, ap bit z)))

  -- What a party sees at its ticket is what it would see at the cells.
  pub seat-same : (p : ℕ) (f : Phase) → phase_in l p ≡ f
      → by_ticket empty_seat (read_seat a) f ≡ by_ticket empty_seat g f
  seat-same p f w =
      by-ticket empty_seat (read_seat a) f ∙ go (ticketed f) refl ∙ sym (by-ticket empty_seat g f)
    where
      go : (y : Bool) → ticketed f ≡ y
          → cond y (read_seat a (ticket_of f)) empty_seat ≡ cond y (g (ticket_of f)) empty_seat
      go true z = let j = ticket-place p f w z in sym (x.window.within (ticket_of f) j.0 j.1)
      go false z = refl

  -- The place of a party's ticket is written in both.
  pub placed-window : (p : ℕ) (f : Phase) → phase_in l p ≡ f → (c : PlaceSlot)
      → Window o (by_ticket a (λ t. write_seat a t c) f) (by_ticket g (λ t. write g t c) f)
      × (length (by_ticket a (λ t. write_seat a t c) f) ≡ PLACES)
  placed-window p f w c =
      subst₂ (λ (k : List PlaceSlot) (h : ℕ → PlaceSlot). Window o k h × (length k ≡ PLACES))
      (sym (by-ticket a (λ t. write_seat a t c) f)) (sym (by-ticket g (λ t. write g t c) f))
      (go (ticketed f) refl)
    where
      go : (y : Bool) → ticketed f ≡ y
          → Window o (cond y (write_seat a (ticket_of f) c) a) (cond y (write g (ticket_of f) c) g)
          × (length (cond y (write_seat a (ticket_of f) c) a) ≡ PLACES)
      go false z = (x.window, x.size)
      go true z =
          let j = ticket-place p f w z in (
            window-write o a g x.size x.window (ticket_of f) c j.0 j.1,
            written-size a x.size (ticket_of f) c,
          )
