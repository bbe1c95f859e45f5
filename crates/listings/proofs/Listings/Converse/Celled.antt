-- Actions at a thread's own cell: 2: 9, and the handler.
use Prim.Native.Nat.{ℕ, ◌<◌}
use mathlib.Core.Path.{◌≡◌, refl, sym, ap, subst, ◌∙◌}
use mathlib.Core.Bool.{Bool, true, false, cond, not}
use native.Mathlib.Decide.{ℕ_discrete}
use borrow.Author.Tests.{eq-eqb, ne_eqb}
use lib.Dec.{eqb}
use lib.ListN.{length}
use Rattle.hub.specs.declared.moves.Op.{Op}
use Rattle.hub.specs.declared.record.Phase.{Phase}
use Rattle.hub.specs.declared.record.Phase.TheVariants.{Free, Holding, Waiting, Ticketed, Aborting}
use Rattle.hub.specs.declared.record.Phase.TheVariants.{Cancelling, Refusing, Resuming, TicketedMarked}
use Rattle.hub.specs.declared.record.Place.{Place}
use Rattle.hub.specs.declared.record.Place.TheVariants as place
use Rattle.hub.specs.declared.record.PlaceSlot.{PlaceSlot}
use Rattle.listings.specs.Listings.Converse.{AtPark, Follows, Marked, call_of, park_fits, phase_of}
use Rattle.listings.specs.Listings.Machine.{Cell, Listing, Request, act, is_null, is_parked_at, is_thread, mark, parked, request, goto}
use Rattle.listings.specs.Listings.Machine.{Outside, Suspend9, Suspend10, Suspend12, Resume2, Handler45, Handler55}
use Rattle.listings.specs.Listings.Shown.{is_cancelled_cell, is_parked}
use Rattle.listings.specs.Listings.Words.{said}
use Rattle.hub.specs.Look.{seen_by}
use Rattle.hub.specs.Phases.{by_ticket, is_one_of, is_place_of}
use Rattle.hub.specs.Queue.{Queue, look, phases, places, write}
use Rattle.hub.specs.Record.{empty_seat, with_place}
use Rattle.hub.specs.Table.{row_in, step_cancelling, step_refusing, step_ticketed}
use Rattle.hub.proofs.Laws.Bools.{never}
use Rattle.hub.proofs.Invariant.Keep.{Inv}
use Rattle.hub.proofs.Invariant.Rows.{Good, write_same}
use Rattle.hub.proofs.Invariant.Tickets.{inside}
use Rattle.listings.proofs.Listings.Cells.{null-cell, override-other, override-same, thread-cell, value_cell}
use Rattle.listings.proofs.Listings.Kept.{set_to}
use Rattle.listings.proofs.Listings.Converse.Answered.{After, Answered, good, stepped}
use Rattle.listings.proofs.Listings.Converse.Kept.{Moves}
use Rattle.listings.proofs.Listings.Converse.Rows.{alone, cell-is, cell_row, done-row, mark-row, open-place, tested}

-- What a step of party p sees at its place.
pub seen_at : (m : Queue) (p : ℕ) (f : Phase) → phase_of m p ≡ f → (look m p).seat.place ≡ (by_ticket empty_seat m.cells f).place
unfolding seen_by
seen_at m p f e = ap (λ (g : Phase). (by_ticket empty_seat m.cells g).place) e

module _ (k : ℕ) (m : Queue) (inv : Inv k m) (s : Listing) (w : Follows m s) (p : ℕ) (l : p < m.opening.parties) where
  i₀ : p < length (phases m)
  i₀ = inside inv.tickets p l

  -- 24: the request v enters the cell
  stands : (x : Phase) (t : ℕ) (v : Request) → parked t (s.requests p) ≡ v → places m t ≡ place.Empty → AtPark v x t
      → park_fits x v ≡ true
      → ((u : ℕ) → is_null (s.cells u) ≡ false → is_parked_at u v ≡ false)
      → Follows (set_to m p x (write m.cells t (with_place (place.Waiting p) empty_seat)) m.figures) (act (Suspend9 t) p s)
  unfolding act is_place_of
  stands x t v e i wh pk un =
      let z = null-cell (s.cells t) (cell-is m s w p i₀ t place.Empty i refl) in
      let s' = goto p (Suspend10 t) (mark t (Cell.Thread p) (request p (parked t (s.requests p)) s)) in
      let mv : Moves p s s' (Suspend10 t) v = record {
        line = override-same s.lines p (Suspend10 t);
        request = override-same s.requests p (parked t (s.requests p)) ∙ e;
        lines = λ q d. override-other s.lines p (Suspend10 t) q d;
        requests = λ q d. override-other s.requests p (parked t (s.requests p)) q d;
      } in
      subst (λ (b : Bool). Follows (set_to m p x (write m.cells t (with_place (place.Waiting p) empty_seat)) m.figures)
      (cond b s' (goto p (Suspend12 t) s))) (sym (ap is_null z))
      (cell_row m s w p i₀ t (open-place m s w p i₀ t place.Empty i refl) x (place.Waiting p) (Cell.Thread p) (Suspend10 t) v s'
      refl refl refl refl mv (λ d. eq-eqb p p refl) refl (λ u j k. un u j) pk wh)

  -- 25
  took : (t : ℕ) → not (is_parked (s.requests p)) ≡ true → places m t ≡ place.Permit
      → Follows (set_to m p Holding (write m.cells t (with_place place.Done empty_seat)) m.figures) (act (Suspend9 t) p s)
  unfolding act is_place_of is_one_of
  took t n i =
      let z = value_cell (s.cells t) (cell-is m s w p i₀ t place.Permit i refl) in
      subst (λ (b : Bool). Follows (set_to m p Holding (write m.cells t (with_place place.Done empty_seat)) m.figures)
      (cond b (goto p (Suspend10 t) (mark t (Cell.Thread p) (request p (parked t (s.requests p)) s))) (goto p (Suspend12 t) s)))
      (sym (ap is_null z))
      (done-row m s w p i₀ t (open-place m s w p i₀ t place.Permit i refl) Holding (Suspend12 t) n (
        refl,
        record {
          done = ap (λ (b : PlaceSlot). b.place) (write_same m.cells t (with_place place.Done empty_seat));
          other = ap is_cancelled_cell z;
        },
      ))

  null-at : (t : ℕ) → places m t ≡ place.Empty → s.cells t ≡ Cell.Null
  unfolding is_place_of
  null-at t i = null-cell (s.cells t) (cell-is m s w p i₀ t place.Empty i refl)

  value-at : (t : ℕ) → places m t ≡ place.Permit → s.cells t ≡ Cell.Value
  unfolding is_place_of
  value-at t i = value_cell (s.cells t) (cell-is m s w p i₀ t place.Permit i refl)

  -- A cell that is not null is not the one that was.
  elsewhere : (t u : ℕ) → s.cells t ≡ Cell.Null → is_null (s.cells u) ≡ false → Dec (t ≡ u) → eqb t u ≡ false
  elsewhere t u z j (yes e) = never (sym (ap is_null (ap s.cells (sym e) ∙ z)) ∙ j)
  elsewhere t u z j (no e) = ne_eqb t u e

  numbered : (t : ℕ) (a : Place) → places m t ≡ a → phase_of m p ≡ Ticketed t → s.requests p ≡ Request.Fresh
      → Good k Op.Step p m (Ticketed t) (step_ticketed (Waiting t) t a (look m p))
      → After p m (Ticketed t) (act (Suspend9 t) p s) (said (Suspend9 t) p s) (step_ticketed (Waiting t) t a (look m p))
  unfolding step_ticketed seen_by said is_one_of
  numbered t place.Empty i e g o =
      let z = null-at t i in (
        stands (Waiting t) t (Request.Parked t) (ap (parked t) g) i refl (eq-eqb t t refl)
            (λ u j. elsewhere t u z j (ℕ_discrete t u)),
        rw z,
      )
  numbered t place.Permit i e g o = (took t (alone m s w p i₀ (Ticketed t) e refl) i, rw (value-at t i))
  numbered t (place.Waiting q) i e g o = never (sym o)
  numbered t place.Cancelled i e g o = never (sym o)
  numbered t place.Refused i e g o = never (sym o)
  numbered t place.Done i e g o = never (sym o)

  numbered-marked : (t : ℕ) (a : Place) → places m t ≡ a → phase_of m p ≡ TicketedMarked t → s.requests p ≡ Request.Aborted
      → Good k Op.Step p m (TicketedMarked t) (step_ticketed (Aborting t) t a (look m p))
      → After p m (TicketedMarked t) (act (Suspend9 t) p s) (said (Suspend9 t) p s) (step_ticketed (Aborting t) t a (look m p))
  unfolding step_ticketed seen_by said is_one_of
  numbered-marked t place.Empty i e g o =
      (stands (Aborting t) t Request.Aborted (ap (parked t) g) i refl refl (λ u j. refl), rw (null-at t i))
  numbered-marked t place.Permit i e g o = (took t (alone m s w p i₀ (TicketedMarked t) e refl) i, rw (value-at t i))
  numbered-marked t (place.Waiting q) i e g o = never (sym o)
  numbered-marked t place.Cancelled i e g o = never (sym o)
  numbered-marked t place.Refused i e g o = never (sym o)
  numbered-marked t place.Done i e g o = never (sym o)

  pub ticketed : (t : ℕ) (g : Request) → s.requests p ≡ g → Marked g (phase_of m p) (Ticketed t) (TicketedMarked t)
      → Answered m (call_of Op.Step p) (act (Suspend9 t) p s) (said (Suspend9 t) p s)
  unfolding row_in seen_by
  ticketed t Request.Fresh e z =
      stepped k m inv p l (act (Suspend9 t) p s) _ (Ticketed t) z
      (numbered t _ (sym (seen_at m p (Ticketed t) z)) z e (good k m inv p l (Ticketed t) z))
  ticketed t (Request.Parked j) e z = absurd z
  ticketed t Request.Unparked e z = absurd z
  ticketed t Request.Aborted e z =
      stepped k m inv p l (act (Suspend9 t) p s) _ (TicketedMarked t) z
      (numbered-marked t _ (sym (seen_at m p (TicketedMarked t) z)) z e (good k m inv p l (TicketedMarked t) z))

  -- 30, 31
  cancelling-at : (t : ℕ) (a : Place) → places m t ≡ a → not (is_parked (s.requests p)) ≡ true
      → Good k Op.Step p m (Cancelling t) (step_cancelling t a (look m p))
      → After p m (Cancelling t) (act (Handler45 t) p s) (said (Handler45 t) p s) (step_cancelling t a (look m p))
  unfolding step_cancelling seen_by act said is_place_of is_one_of
  cancelling-at t (place.Waiting q) i n o =
      let z = thread-cell q (s.cells t) (cell-is m s w p i₀ t (place.Waiting q) i refl) in (
        tested _ p (is_thread (s.cells t)) true Outside Resume2 _ (ap is_thread z)
            (mark-row m s w p i₀ t (open-place m s w p i₀ t (place.Waiting q) i refl) Free place.Cancelled Cell.Cancelled Outside
            (λ d. refl) refl n refl),
        rw z,
      )
  cancelling-at t place.Permit i n o =
      let z = value_cell (s.cells t) (cell-is m s w p i₀ t place.Permit i refl) in (
        tested _ p (is_thread (s.cells t)) false Outside Resume2 _ (ap is_thread z)
            (mark-row m s w p i₀ t (open-place m s w p i₀ t place.Permit i refl) Resuming place.Done Cell.Cancelled Resume2
            (λ d. refl) refl n refl),
        rw z,
      )
  cancelling-at t place.Empty i n o = never (sym o)
  cancelling-at t place.Cancelled i n o = never (sym o)
  cancelling-at t place.Refused i n o = never (sym o)
  cancelling-at t place.Done i n o = never (sym o)

  pub cancelling : (t : ℕ) → phase_of m p ≡ Cancelling t
      → Answered m (call_of Op.Step p) (act (Handler45 t) p s) (said (Handler45 t) p s)
  unfolding row_in seen_by is_one_of
  cancelling t e =
      stepped k m inv p l (act (Handler45 t) p s) _ (Cancelling t) e
      (cancelling-at t _ (sym (seen_at m p (Cancelling t) e)) (alone m s w p i₀ (Cancelling t) e refl)
      (good k m inv p l (Cancelling t) e))

  -- 32, 33
  refusing-at : (t : ℕ) (a : Place) → places m t ≡ a → not (is_parked (s.requests p)) ≡ true
      → Good k Op.Step p m (Refusing t) (step_refusing t a (look m p))
      → After p m (Refusing t) (act (Handler55 t) p s) (said (Handler55 t) p s) (step_refusing t a (look m p))
  unfolding step_refusing seen_by act said is_place_of is_one_of
  refusing-at t (place.Waiting q) i n o =
      let z = thread-cell q (s.cells t) (cell-is m s w p i₀ t (place.Waiting q) i refl) in (
        mark-row m s w p i₀ t (open-place m s w p i₀ t (place.Waiting q) i refl) Free place.Refused Cell.Refuse Outside
            (λ d. refl) refl n refl,
        rw z,
      )
  refusing-at t place.Permit i n o =
      let z = value_cell (s.cells t) (cell-is m s w p i₀ t place.Permit i refl) in (
        mark-row m s w p i₀ t (open-place m s w p i₀ t place.Permit i refl) Free place.Done Cell.Refuse Outside
            (λ d. never d) refl n refl,
        rw z,
      )
  refusing-at t place.Empty i n o = never (sym o)
  refusing-at t place.Cancelled i n o = never (sym o)
  refusing-at t place.Refused i n o = never (sym o)
  refusing-at t place.Done i n o = never (sym o)

  pub refusing : (t : ℕ) → phase_of m p ≡ Refusing t
      → Answered m (call_of Op.Step p) (act (Handler55 t) p s) (said (Handler55 t) p s)
  unfolding row_in seen_by is_one_of
  refusing t e =
      stepped k m inv p l (act (Handler55 t) p s) _ (Refusing t) e
      (refusing-at t _ (sym (seen_at m p (Refusing t) e)) (alone m s w p i₀ (Refusing t) e refl)
      (good k m inv p l (Refusing t) e))
