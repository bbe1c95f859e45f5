-- The rows at the party's own place, as actions of the listings: 24, 25 and 30 to 33.
use Prim.Native.Nat.{ℕ, ◌<◌}
use mathlib.Core.Path.{◌≡◌, refl, sym, ap, subst, ◌∙◌}
use mathlib.Core.Bool.{true, not}
use mathlib.Core.List.{[], ◌∷◌}
use borrow.Author.Tests.{eq-eqb}
use lib.ListN.{length}
use Rattle.hub.specs.declared.moves.Op.{Op}
use Rattle.hub.specs.declared.record.Phase.{Phase}
use Rattle.hub.specs.declared.record.Phase.TheVariants.{Free, Holding, Waiting, Ticketed, Aborting}
use Rattle.hub.specs.declared.record.Phase.TheVariants.{Cancelling, Refusing, Resuming, TicketedMarked}
use Rattle.hub.specs.declared.record.Place.{Place}
use Rattle.hub.specs.declared.record.Place.TheVariants as place
use Rattle.listings.specs.Listings.Machine.{Cell, Listing, Request, act, is_null, is_thread, mark, parked, override, request, goto}
use Rattle.listings.specs.Listings.Machine.{Outside, Inside, Suspend9, Suspend10, Suspend12, Taking12, Resume2}
use Rattle.listings.specs.Listings.Machine.{Handler45, Handler55, Acts}
use Rattle.listings.specs.Listings.Execution.{actions, words}
use Rattle.listings.specs.Listings.Shown.{is_cell_of, is_parked, line_of, request_fits}
use Rattle.listings.specs.Listings.Words.{said, say_of}
use Rattle.hub.specs.Look.{seen_by}
use Rattle.hub.specs.Phases.{is_one_of}
use Rattle.hub.specs.Queue.{Queue, look, phases, places, write}
use Rattle.hub.specs.Record.{empty_seat, read_slot, with_place}
use Rattle.hub.specs.Table.{step_cancelling, step_refusing, step_ticketed}
use Rattle.hub.proofs.Laws.Bools.{if-true, if-false}
use Rattle.listings.proofs.Listings.Cells.{aborted-apart, aborted-request, fresh-apart, fresh-request, null-cell, override-other}
use Rattle.listings.proofs.Listings.Cells.{override-same, thread-cell, value_cell}
use Rattle.listings.proofs.Listings.Kept.{Shows, cell_row, set_to}
use Rattle.listings.proofs.Listings.Known.{came-here, came-to, cell_at, cell-written, line_at, line-now, other-cell}
use Rattle.listings.proofs.Listings.Known.{request-at}
use Rattle.listings.proofs.Listings.Played.{Fine, Gives, acts, ends, not_so, so}

-- A fresh request is parked, an aborted one stays so.
fresh-parks : (t : ℕ) (g : Request) → request_fits (Ticketed t) g ≡ true → request_fits (Waiting t) (parked t g) ≡ true
unfolding request_fits is_one_of
fresh-parks t g e = rw (fresh-request g e, eq-eqb t t refl)

aborted-stays : (t : ℕ) (g : Request) → request_fits (TicketedMarked t) g ≡ true
    → request_fits (Aborting t) (parked t g) ≡ true
unfolding request_fits is_one_of
aborted-stays t g e = rw (aborted-request g e)

module _ (m : Queue) (s : Listing) (w : Shows m s) (p : ℕ) (l : p < length (phases m)) where
  abbrev has : Phase → Type 0
  has f = (read_slot m.slots p).phase ≡ f

  -- 24: with a mark or without
  stands : (f x : Phase) (t : ℕ) → Suspend9 t ≡ line_of f → Suspend10 t ≡ line_of x
      → request_fits x (parked t (s.requests p)) ≡ true → places m t ≡ place.Empty → has f
      → Gives (set_to m p x (write m.cells t (with_place (place.Waiting p) empty_seat)) m.figures) (Acts p ∷ []) s
      (say_of 0x24 t)
  unfolding said act
  stands f x t a b j i e =
      let z = null-cell (s.cells t) (cell_at m s w t place.Empty i) in
      let g = parked t (s.requests p) in
      let u = goto p (Suspend10 t) (mark t (Cell.Thread p) (request p g s)) in
      acts _ [] s p (Suspend9 t) (say_of 0x24 t) [] (line_at m s w p f e ∙ sym a) (rw z)
      (so _ [] (is_null (s.cells t)) _ _ _ (ap is_null z)
      (ends _ _ (cell_row m s w p l x t (place.Waiting p) u refl refl refl
      (subst (λ (d : Cell). is_cell_of (place.Waiting p) d ≡ true) (sym (override-same s.cells t (Cell.Thread p))) (eq-eqb p p refl))
      (λ v d. override-other s.cells t (Cell.Thread p) v d)
      (λ y. other-cell s t Cell.Null (override s.cells t (Cell.Thread p) t) z refl y)
      (override-same s.lines p (Suspend10 t) ∙ b) (λ q d. override-other s.lines p (Suspend10 t) q d)
      (subst (λ (h : Request). request_fits x h ≡ true) (sym (override-same s.requests p g)) j)
      (λ q d. override-other s.requests p g q d))))

  -- 25: with a mark or without
  took : (f : Phase) (t : ℕ) → Suspend9 t ≡ line_of f → not (is_parked (s.requests p)) ≡ true
      → places m t ≡ place.Permit → has f
      → Gives (set_to m p Holding (write m.cells t (with_place place.Done empty_seat)) m.figures)
      (Acts p ∷ Acts p ∷ Acts p ∷ []) s (say_of 0x25 t)
  unfolding said act request_fits is_one_of
  took f t a g i e =
      let z = value_cell (s.cells t) (cell_at m s w t place.Permit i) in
      let s₁ = goto p (Suspend12 t) s in
      let s₂ = goto p (Taking12 t) s₁ in
      acts _ (Acts p ∷ Acts p ∷ []) s p (Suspend9 t) (say_of 0x25 t) [] (line_at m s w p f e ∙ sym a) (rw z)
      (not_so _ (Acts p ∷ Acts p ∷ []) (is_null (s.cells t)) _ _ _ (ap is_null z)
      (acts _ (Acts p ∷ []) s₁ p (Suspend12 t) [] [] (line-now p (Suspend12 t) s) refl
      (acts _ [] s₂ p (Taking12 t) [] [] (line-now p (Taking12 t) s₁) refl
      (ends _ _ (cell-written m s w p l Holding t place.Done s₂
      (came-to p s s₁ (Taking12 t) (came-to p s s (Suspend12 t) (came-here p s))) Inside refl g
      Cell.Taken refl (other-cell s t Cell.Value Cell.Taken z refl))))))

  pub numbered : (t : ℕ) (a : Place) → places m t ≡ a → has (Ticketed t)
      → Fine Op.Step p m s (Ticketed t) (step_ticketed (Waiting t) t a (look m p))
  unfolding step_ticketed seen_by actions words request_fits is_one_of
  numbered t place.Empty i e =
      stands (Ticketed t) (Waiting t) t refl refl (fresh-parks t (s.requests p) (request-at m s w p (Ticketed t) e)) i e
  numbered t place.Permit i e =
      took (Ticketed t) t refl (fresh-apart (s.requests p) (request-at m s w p (Ticketed t) e)) i e
  numbered t (place.Waiting q) i e = tt
  numbered t place.Cancelled i e = tt
  numbered t place.Refused i e = tt
  numbered t place.Done i e = tt

  pub numbered-marked : (t : ℕ) (a : Place) → places m t ≡ a → has (TicketedMarked t)
      → Fine Op.Step p m s (TicketedMarked t) (step_ticketed (Aborting t) t a (look m p))
  unfolding step_ticketed seen_by actions words request_fits is_one_of
  numbered-marked t place.Empty i e =
      stands (TicketedMarked t) (Aborting t) t refl refl
      (aborted-stays t (s.requests p) (request-at m s w p (TicketedMarked t) e)) i e
  numbered-marked t place.Permit i e =
      took (TicketedMarked t) t refl (aborted-apart (s.requests p) (request-at m s w p (TicketedMarked t) e)) i e
  numbered-marked t (place.Waiting q) i e = tt
  numbered-marked t place.Cancelled i e = tt
  numbered-marked t place.Refused i e = tt
  numbered-marked t place.Done i e = tt

  -- 30, 31
  pub cancelling : (t : ℕ) (a : Place) → places m t ≡ a → has (Cancelling t)
      → Fine Op.Step p m s (Cancelling t) (step_cancelling t a (look m p))
  unfolding step_cancelling seen_by actions words said act request_fits is_one_of
  cancelling t (place.Waiting q) i e =
      let z = thread-cell q (s.cells t) (cell_at m s w t (place.Waiting q) i) in
      acts _ [] s p (Handler45 t) (say_of 0x30 t) [] (line_at m s w p (Cancelling t) e) (rw z)
      (ends _ _ (cell-written m s w p l Free t place.Cancelled s (came-here p s) _
      (if-true _ _ _ (ap is_thread z)) (request-at m s w p (Cancelling t) e) Cell.Cancelled refl (λ y. refl)))
  cancelling t place.Permit i e =
      let z = value_cell (s.cells t) (cell_at m s w t place.Permit i) in
      acts _ [] s p (Handler45 t) (say_of 0x31 t) [] (line_at m s w p (Cancelling t) e) (rw z)
      (ends _ _ (cell-written m s w p l Resuming t place.Done s (came-here p s) _
      (if-false _ _ _ (ap is_thread z)) (request-at m s w p (Cancelling t) e) Cell.Cancelled refl (λ y. refl)))
  cancelling t place.Empty i e = tt
  cancelling t place.Cancelled i e = tt
  cancelling t place.Refused i e = tt
  cancelling t place.Done i e = tt

  -- 32, 33
  pub refusing : (t : ℕ) (a : Place) → places m t ≡ a → has (Refusing t)
      → Fine Op.Step p m s (Refusing t) (step_refusing t a (look m p))
  unfolding step_refusing seen_by actions words said act request_fits is_one_of
  refusing t (place.Waiting q) i e =
      let z = thread-cell q (s.cells t) (cell_at m s w t (place.Waiting q) i) in
      acts _ [] s p (Handler55 t) (say_of 0x32 t) [] (line_at m s w p (Refusing t) e) (rw z)
      (ends _ _ (cell-written m s w p l Free t place.Refused s (came-here p s) Outside refl
      (request-at m s w p (Refusing t) e) Cell.Refuse refl (other-cell s t (Cell.Thread q) Cell.Refuse z refl)))
  refusing t place.Permit i e =
      let z = value_cell (s.cells t) (cell_at m s w t place.Permit i) in
      acts _ [] s p (Handler55 t) (say_of 0x33 t) [] (line_at m s w p (Refusing t) e) (rw z)
      (ends _ _ (cell-written m s w p l Free t place.Done s (came-here p s) Outside refl
      (request-at m s w p (Refusing t) e) Cell.Refuse refl (other-cell s t Cell.Value Cell.Refuse z refl)))
  refusing t place.Empty i e = tt
  refusing t place.Cancelled i e = tt
  refusing t place.Refused i e = tt
  refusing t place.Done i e = tt
