-- Actions outside of cells: entering the two functions, the counter, a ticket, park().
use Prim.Native.Nat.{ℕ, ◌+◌, ◌<◌}
use mathlib.Core.Path.{◌≡◌, refl, sym, ap, subst, ◌∙◌}
use mathlib.Core.Bool.{Bool, true, false, not}
use mathlib.Core.List.{List}
use native.Mathlib.Omega.{arith}
use lib.Dec.{leb}
use lib.IntN.{pred_ℤ, suc_ℤ}
use lib.ListN.{length}
use Rattle.hub.specs.declared.moves.Call.{Call}
use Rattle.hub.specs.declared.moves.Op.{Op}
use Rattle.hub.specs.declared.record.Phase.{Phase}
use Rattle.hub.specs.declared.record.Phase.TheVariants.{Free, Holding, Acquiring, Suspending, Ticketed, Aborting}
use Rattle.hub.specs.declared.record.Phase.TheVariants.{Cancelling, Refusing, Releasing, Resuming}
use Rattle.hub.specs.declared.record.Phase.TheVariants.{AcquiringMarked, SuspendingMarked, TicketedMarked}
use Rattle.listings.specs.Listings.Converse.{AtPark, Follows, Marked, Where, at_park, call_of, park_fits, phase_of}
use Rattle.listings.specs.Listings.Machine.{Line, Listing, Request, act, counters, park, request, goto}
use Rattle.listings.specs.Listings.Machine.{Outside, Inside, Acquire9, Suspend6, Suspend9, Suspend10, Release16, Resume2}
use Rattle.listings.specs.Listings.Machine.{Handler45, Handler55}
use Rattle.listings.specs.Listings.Shown.{is_parked}
use Rattle.listings.specs.Listings.Words.{said, said_at_park, say}
use Rattle.hub.specs.Look.{seen_by}
use Rattle.hub.specs.Phases.{is_free, is_holding, is_one_of}
use Rattle.hub.specs.Queue.{Queue, look, phases}
use Rattle.hub.specs.Record.{MAX_BEGUN}
use Rattle.hub.specs.Table.{above_zero, acquire, below_zero, decide, release, row_in, step_aborting, step_acquiring}
use Rattle.hub.specs.Table.{step_releasing, step_suspending, with_permit, without_permit}
use Rattle.hub.proofs.Invariant.Keep.{Inv}
use Rattle.hub.proofs.Invariant.Tickets.{inside}
use Rattle.listings.proofs.Listings.Cells.{override-same, override-other}
use Rattle.listings.proofs.Listings.Kept.{set_to}
use Rattle.listings.proofs.Listings.Converse.Answered.{After, Answered, answered, silent-answered, stepped}
use Rattle.listings.proofs.Listings.Converse.Kept.{Moves, follow-call, onward-line}
use Rattle.listings.proofs.Listings.Converse.Rows.{alone, count-row, silent-row, tested}

module _ (k : ℕ) (m : Queue) (inv : Inv k m) (s : Listing) (w : Follows m s) (p : ℕ) (l : p < m.opening.parties)
    (nm : m.opening.named ≡ false) where
  i₀ : p < length (phases m)
  i₀ = inside inv.tickets p l

  abbrev Goes : Line → List Call → Type 0
  Goes x cs = Answered m cs (act x p s) (said x p s)

  -- Entering acquire(), with a fresh request; entering release().
  pub outside : phase_of m p ≡ Free → leb MAX_BEGUN m.figures.begun ≡ false → Goes Outside (call_of Op.Acquire p)
  unfolding decide acquire seen_by act said is_one_of
  outside e b =
      let s' = goto p Acquire9 (request p Request.Fresh s) in
      let mv : Moves p s s' Acquire9 Request.Fresh = record {
        line = override-same s.lines p Acquire9;
        request = override-same s.requests p Request.Fresh;
        lines = λ q d. override-other s.lines p Acquire9 q d;
        requests = λ q d. override-other s.requests p Request.Fresh q d;
      } in
      answered k m inv p l s' (say 0x20) Op.Acquire
      (subst (λ (u : Bool). After p m (phase_of m p) s' (say 0x20) (acquire u (leb MAX_BEGUN m.figures.begun) false (look m p)))
      (sym (ap is_free e))
      (subst (λ (u : Bool). After p m (phase_of m p) s' (say 0x20) (acquire true u false (look m p))) (sym b) (
        follow-call m s w p i₀ Acquiring m.cells _ s' Acquire9 Request.Fresh
            (onward-line m _ s s' p Acquire9 Request.Fresh mv (omega arith) (λ t z. z) (λ t i j. refl) refl)
            w.counter w.issued w.behind w.passed w.cells mv refl refl,
        refl,
      )))

  pub within : phase_of m p ≡ Holding → Goes Inside (call_of Op.Release p)
  unfolding decide release seen_by act said is_one_of
  within e =
      answered k m inv p l (goto p Release16 s) (say 0x20) Op.Release
      (subst (λ (u : Bool). After p m (phase_of m p) (goto p Release16 s) (say 0x20) (release u (look m p))) (sym (ap is_holding e)) (
        count-row m s w p i₀ Releasing m.figures Release16 s.state s.suspend_idx s.resume_idx w.counter w.issued
            (omega arith) w.behind w.passed (alone m s w p i₀ Holding e refl) refl,
        refl,
      ))

  -- 21, 22
  asked : (f x : Phase) → phase_of m p ≡ f → not (is_parked (s.requests p)) ≡ true → park_fits x (s.requests p) ≡ true
      → Where Suspend6 m s x (s.requests p) → (u : Bool) → above_zero m.figures.counter ≡ u
      → After p m f (act Acquire9 p s) (said Acquire9 p s) (step_acquiring x u (look m p))
  unfolding step_acquiring seen_by act said is_one_of
  asked f x e n pk wh true c =
      let z = ap above_zero w.counter ∙ c in (
        tested _ p (above_zero s.state) _ Inside Suspend6 _ z
            (subst (λ (b : Bool). Follows (set_to m p (with_permit b) m.cells
            (record {
              counter = pred_ℤ m.figures.counter;
              issued = m.figures.issued;
              resumed = m.figures.resumed;
              begun = m.figures.begun;
            }))
            (goto p Inside (counters (pred_ℤ s.state) s.suspend_idx s.resume_idx s))) (sym nm)
            (count-row m s w p i₀ Holding _ Inside _ _ _ (ap pred_ℤ w.counter) w.issued (omega arith) w.behind w.passed
            n refl)),
        rw z,
      )
  asked f x e n pk wh false c =
      let z = ap above_zero w.counter ∙ c in (
        tested _ p (above_zero s.state) _ Inside Suspend6 _ z
            (count-row m s w p i₀ x _ Suspend6 _ _ _ (ap pred_ℤ w.counter) w.issued (omega arith) w.behind w.passed pk wh),
        rw z,
      )

  pub acquiring : (g : Request) → s.requests p ≡ g → Marked g (phase_of m p) Acquiring AcquiringMarked
      → Goes Acquire9 (call_of Op.Step p)
  unfolding row_in seen_by is_one_of
  acquiring Request.Fresh e z =
      let n = alone m s w p i₀ Acquiring z refl in
      stepped k m inv p l (act Acquire9 p s) _ Acquiring z
      (asked Acquiring Suspending z n n (subst (λ v. Marked v Suspending Suspending SuspendingMarked) (sym e) refl) _ refl)
  acquiring (Request.Parked j) e z = absurd z
  acquiring Request.Unparked e z = absurd z
  acquiring Request.Aborted e z =
      let n = alone m s w p i₀ AcquiringMarked z refl in
      stepped k m inv p l (act Acquire9 p s) _ AcquiringMarked z
      (asked AcquiringMarked SuspendingMarked z n n (subst (λ v. Marked v SuspendingMarked Suspending SuspendingMarked) (sym e) refl)
      _ refl)

  -- 23
  unnumbered : (f : Phase) (x : ℕ → Phase) → ((t : ℕ) → park_fits (x t) (s.requests p) ≡ true)
      → ((t : ℕ) → Marked (s.requests p) (x t) (Ticketed t) (TicketedMarked t))
      → After p m f (act Suspend6 p s) (said Suspend6 p s) (step_suspending x (look m p))
  unfolding step_suspending seen_by act said
  unnumbered f x pk wh = (
    count-row m s w p i₀ (x m.figures.issued) _ (Suspend9 s.suspend_idx) s.state (s.suspend_idx + 1) s.resume_idx
        w.counter (ap (λ (n : ℕ). n + 1) w.issued) (omega arith) w.behind w.passed (pk m.figures.issued)
        (subst (λ (n : ℕ). Marked (s.requests p) (x m.figures.issued) (Ticketed n) (TicketedMarked n)) (sym w.issued)
        (wh m.figures.issued)),
    rw w.issued,
  )

  pub suspending : (g : Request) → s.requests p ≡ g → Marked g (phase_of m p) Suspending SuspendingMarked
      → Goes Suspend6 (call_of Op.Step p)
  unfolding row_in seen_by is_one_of
  suspending Request.Fresh e z =
      let n = alone m s w p i₀ Suspending z refl in
      stepped k m inv p l (act Suspend6 p s) _ Suspending z
      (unnumbered Suspending Ticketed (λ t. n) (λ t. subst (λ v. Marked v (Ticketed t) (Ticketed t) (TicketedMarked t)) (sym e) refl))
  suspending (Request.Parked j) e z = absurd z
  suspending Request.Unparked e z = absurd z
  suspending Request.Aborted e z =
      let n = alone m s w p i₀ SuspendingMarked z refl in
      stepped k m inv p l (act Suspend6 p s) _ SuspendingMarked z
      (unnumbered SuspendingMarked TicketedMarked (λ t. n)
      (λ t. subst (λ v. Marked v (TicketedMarked t) (Ticketed t) (TicketedMarked t)) (sym e) refl))

  -- 26, 27
  giving-back : not (is_parked (s.requests p)) ≡ true → (u : Bool) → below_zero m.figures.counter ≡ u
      → After p m Releasing (act Release16 p s) (said Release16 p s) (step_releasing u (look m p))
  unfolding step_releasing seen_by act said is_one_of
  giving-back n true c =
      let z = ap below_zero w.counter ∙ c in (
        tested _ p (below_zero s.state) _ Resume2 Outside _ z
            (count-row m s w p i₀ Resuming _ Resume2 _ _ _ (ap suc_ℤ w.counter) w.issued (omega arith) w.behind w.passed
            n refl),
        rw z,
      )
  giving-back n false c =
      let z = ap below_zero w.counter ∙ c in (
        tested _ p (below_zero s.state) _ Resume2 Outside _ z
            (subst (λ (b : Bool). Follows (set_to m p (without_permit b) m.cells
            (record {
              counter = suc_ℤ m.figures.counter;
              issued = m.figures.issued;
              resumed = m.figures.resumed;
              begun = m.figures.begun;
            }))
            (goto p Outside (counters (suc_ℤ s.state) s.suspend_idx s.resume_idx s))) (sym nm)
            (count-row m s w p i₀ Free _ Outside _ _ _ (ap suc_ℤ w.counter) w.issued (omega arith) w.behind w.passed
            n refl)),
        rw z,
      )

  pub releasing : phase_of m p ≡ Releasing → Goes Release16 (call_of Op.Step p)
  unfolding row_in seen_by is_one_of
  releasing e =
      stepped k m inv p l (act Release16 p s) _ Releasing e (giving-back (alone m s w p i₀ Releasing e refl) _ refl)

  -- 2E, 2F
  giving-up : (t : ℕ) → not (is_parked (s.requests p)) ≡ true → (u : Bool) → below_zero m.figures.counter ≡ u
      → After p m (Aborting t) (park Request.Aborted p t s) (said_at_park Request.Aborted s) (step_aborting t u (look m p))
  unfolding step_aborting seen_by park said_at_park is_one_of
  giving-up t n true c =
      let z = ap below_zero w.counter ∙ c in (
        tested _ p (below_zero s.state) _ (Handler45 t) (Handler55 t) _ z
            (count-row m s w p i₀ (Cancelling t) _ (Handler45 t) _ _ _ (ap suc_ℤ w.counter) w.issued (omega arith) w.behind
            w.passed n refl),
        rw z,
      )
  giving-up t n false c =
      let z = ap below_zero w.counter ∙ c in (
        tested _ p (below_zero s.state) _ (Handler45 t) (Handler55 t) _ z
            (count-row m s w p i₀ (Refusing t) _ (Handler55 t) _ _ _ (ap suc_ℤ w.counter) w.issued (omega arith) w.behind
            w.passed n refl),
        rw z,
      )

  parked-at : (t : ℕ) (g : Request) → AtPark g (phase_of m p) t → Answered m (at_park g p) (park g p t s) (said_at_park g s)
  unfolding at_park row_in seen_by is_one_of
  parked-at t Request.Fresh z = absurd z
  parked-at t (Request.Parked j) z = silent-answered m _ (said_at_park (Request.Parked j) s) (unfold park in w)
  parked-at t Request.Unparked z =
      silent-answered m _ (said_at_park Request.Unparked s)
      (unfold park in silent-row m s w p i₀ Inside s.resume_idx (omega arith) w.behind z)
  parked-at t Request.Aborted z =
      stepped k m inv p l (park Request.Aborted p t s) _ (Aborting t) z
      (giving-up t (alone m s w p i₀ (Aborting t) z refl) _ refl)

  pub parking : (t : ℕ) → AtPark (s.requests p) (phase_of m p) t → Goes (Suspend10 t) (at_park (s.requests p) p)
  unfolding act said
  parking t z = parked-at t (s.requests p) z
