-- The rows of the step table that count, as actions of the listings: 21 to 23, 26, 27, 2E and 2F.
use Prim.Native.Nat.{ℕ, ◌+◌, ◌<◌}
use mathlib.Core.Path.{◌≡◌, refl, sym, ap, ◌∙◌}
use mathlib.Core.Bool.{Bool, true, false, not}
use mathlib.Core.List.{[]}
use lib.IntN.{pred_ℤ, suc_ℤ}
use lib.ListN.{length}
use Rattle.hub.specs.declared.moves.Op.{Op}
use Rattle.hub.specs.declared.record.Phase.{Phase}
use Rattle.hub.specs.declared.record.Phase.TheVariants.{Aborting, Releasing}
use Rattle.listings.specs.Listings.Machine.{Listing, Request, act, park}
use Rattle.listings.specs.Listings.Machine.{Outside, Inside, Acquire9, Suspend6, Suspend9, Suspend10, Release16, Resume2}
use Rattle.listings.specs.Listings.Machine.{Handler45, Handler55}
use Rattle.listings.specs.Listings.Execution.{actions, words}
use Rattle.listings.specs.Listings.Shown.{is_parked, line_of, request_fits}
use Rattle.listings.specs.Listings.Words.{said, said_at_park, say, say_of}
use Rattle.hub.specs.Look.{seen_by}
use Rattle.hub.specs.Phases.{is_one_of}
use Rattle.hub.specs.Queue.{Queue, look, phases}
use Rattle.hub.specs.Record.{read_slot}
use Rattle.hub.specs.Table.{above_zero, below_zero, step_aborting, step_acquiring, step_releasing, step_suspending}
use Rattle.hub.specs.Table.{with_permit, without_permit}
use Rattle.hub.proofs.Laws.Bools.{if-true, if-false}
use Rattle.listings.proofs.Listings.Cells.{aborted-request}
use Rattle.listings.proofs.Listings.Kept.{Shows, phase-row}
use Rattle.listings.proofs.Listings.Known.{line_at, request-at}
use Rattle.listings.proofs.Listings.Played.{Fine, acts, ends, parking, parks}

-- A permit of its own, or none any more: with radios a step more, which is none of the semaphore's.
permit-line : (b : Bool) → Inside ≡ line_of (with_permit b)
permit-line true = refl
permit-line false = refl

back-line : (b : Bool) → Outside ≡ line_of (without_permit b)
back-line true = refl
back-line false = refl

-- A request that is in no cell fits there.
permit-fits : (b : Bool) (g : Request) → not (is_parked g) ≡ true → request_fits (with_permit b) g ≡ true
unfolding request_fits is_one_of
permit-fits true g e = e
permit-fits false g e = e

back_fits : (b : Bool) (g : Request) → not (is_parked g) ≡ true → request_fits (without_permit b) g ≡ true
unfolding request_fits is_one_of
back_fits true g e = e
back_fits false g e = e

module _ (m : Queue) (s : Listing) (w : Shows m s) (p : ℕ) (l : p < length (phases m)) where
  abbrev has : Phase → Type 0
  has f = (read_slot m.slots p).phase ≡ f

  above : (u : Bool) → above_zero m.figures.counter ≡ u → above_zero s.state ≡ u
  above u c = ap above_zero w.counter ∙ c

  below : (u : Bool) → below_zero m.figures.counter ≡ u → below_zero s.state ≡ u
  below u c = ap below_zero w.counter ∙ c

  -- 21, 22: with a mark or without
  pub asked : (f x : Phase) → Acquire9 ≡ line_of f → Suspend6 ≡ line_of x
      → ((g : Request) → request_fits f g ≡ true → (not (is_parked g) ≡ true) × (request_fits x g ≡ true))
      → (u : Bool) → above_zero m.figures.counter ≡ u → has f → Fine Op.Step p m s f (step_acquiring x u (look m p))
  unfolding step_acquiring seen_by actions words said act
  asked f x a b j true c e =
      acts _ [] s p Acquire9 (say 0x21) [] (line_at m s w p f e ∙ sym a) (rw (above true c))
      (ends _ _ (phase-row m s w p l _ _ _ _ _ (ap pred_ℤ w.counter) w.issued refl
      (if-true _ Inside Suspend6 (above true c) ∙ permit-line m.opening.named)
      (permit-fits m.opening.named (s.requests p) (j (s.requests p) (request-at m s w p f e)).0)))
  asked f x a b j false c e =
      acts _ [] s p Acquire9 (say 0x22) [] (line_at m s w p f e ∙ sym a) (rw (above false c))
      (ends _ _ (phase-row m s w p l _ _ _ _ _ (ap pred_ℤ w.counter) w.issued refl
      (if-false _ Inside Suspend6 (above false c) ∙ b) (j (s.requests p) (request-at m s w p f e)).1))

  -- 23
  pub unnumbered : (f : Phase) (x : ℕ → Phase) → Suspend6 ≡ line_of f → ((t : ℕ) → Suspend9 t ≡ line_of (x t))
      → ((t : ℕ) (g : Request) → request_fits f g ≡ true → request_fits (x t) g ≡ true)
      → has f → Fine Op.Step p m s f (step_suspending x (look m p))
  unfolding step_suspending seen_by actions words said act
  unnumbered f x a b j e =
      acts _ [] s p Suspend6 (say_of 0x23 m.figures.issued) [] (line_at m s w p f e ∙ sym a)
      (ap (say_of 0x23) w.issued)
      (ends _ _ (phase-row m s w p l _ _ _ _ _ w.counter (ap (λ (n : ℕ). n + 1) w.issued) refl
      (ap Suspend9 w.issued ∙ b _) (j _ (s.requests p) (request-at m s w p f e))))

  -- 26, 27
  pub giving-back : (u : Bool) → below_zero m.figures.counter ≡ u → has Releasing
      → Fine Op.Step p m s Releasing (step_releasing u (look m p))
  unfolding step_releasing seen_by actions words said act request_fits is_one_of
  giving-back true c e =
      acts _ [] s p Release16 (say 0x27) [] (line_at m s w p Releasing e) (rw (below true c))
      (ends _ _ (phase-row m s w p l _ _ _ _ _ (ap suc_ℤ w.counter) w.issued refl
      (if-true _ Resume2 Outside (below true c)) (request-at m s w p Releasing e)))
  giving-back false c e =
      acts _ [] s p Release16 (say 0x26) [] (line_at m s w p Releasing e) (rw (below false c))
      (ends _ _ (phase-row m s w p l _ _ _ _ _ (ap suc_ℤ w.counter) w.issued refl
      (if-false _ Resume2 Outside (below false c) ∙ back-line m.opening.named)
      (back_fits m.opening.named (s.requests p) (request-at m s w p Releasing e))))

  -- 2E, 2F
  pub giving-up : (t : ℕ) (u : Bool) → below_zero m.figures.counter ≡ u → has (Aborting t)
      → Fine Op.Step p m s (Aborting t) (step_aborting t u (look m p))
  unfolding step_aborting seen_by actions words said_at_park park request_fits is_one_of
  giving-up t true c e =
      let z = aborted-request (s.requests p) (request-at m s w p (Aborting t) e) in
      acts _ [] s p (Suspend10 t) (say 0x2E) [] (line_at m s w p (Aborting t) e)
      (parking s p t Request.Aborted z ∙ rw (below true c))
      (parks _ [] s p t Request.Aborted [] z
      (ends _ _ (phase-row m s w p l _ _ _ _ _ (ap suc_ℤ w.counter) w.issued refl
      (if-true _ (Handler45 t) (Handler55 t) (below true c)) (rw z))))
  giving-up t false c e =
      let z = aborted-request (s.requests p) (request-at m s w p (Aborting t) e) in
      acts _ [] s p (Suspend10 t) (say 0x2F) [] (line_at m s w p (Aborting t) e)
      (parking s p t Request.Aborted z ∙ rw (below false c))
      (parks _ [] s p t Request.Aborted [] z
      (ends _ _ (phase-row m s w p l _ _ _ _ _ (ap suc_ℤ w.counter) w.issued refl
      (if-false _ (Handler45 t) (Handler55 t) (below false c)) (rw z))))
