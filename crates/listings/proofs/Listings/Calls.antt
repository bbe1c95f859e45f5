-- 28, the other calls, and every call of the queue as actions of the listings.
use Prim.Native.Nat.{ℕ, zero, suc, ◌+◌, ◌-◌, ◌<◌}
use mathlib.Core.Path.{◌≡◌, refl, sym, ap, subst, ◌∙◌}
use mathlib.Core.Bool.{Bool, true, false}
use mathlib.Core.List.{[], ◌∷◌}
use native.Mathlib.Decide.{ℕ_discrete}
use native.Mathlib.Omega.{arith}
use borrow.Author.Tests.{lt-leb, lt-ltb, ltb-true, ne_eqb}
use lib.Dec.{ltb}
use lib.ListN.{length}
use Rattle.hub.specs.declared.answers.Answer.{Answer}
use Rattle.hub.specs.declared.moves.Call.{Call}
use Rattle.hub.specs.declared.moves.Op.{Op}
use Rattle.hub.specs.declared.record.Phase.{Phase}
use Rattle.hub.specs.declared.record.Phase.TheVariants.{Free, Holding, Waiting, Acquiring}
use Rattle.hub.specs.declared.record.Phase.TheVariants.{Suspending, Ticketed, Aborting}
use Rattle.hub.specs.declared.record.Phase.TheVariants.{Cancelling, Refusing, Releasing}
use Rattle.hub.specs.declared.record.Phase.TheVariants.{Resuming, ResumingAt, Fetching, Storing}
use Rattle.hub.specs.declared.record.Phase.TheVariants.{AcquiringMarked, SuspendingMarked, TicketedMarked}
use Rattle.hub.specs.Answers.{Printed, printed, with_number}
use Rattle.hub.specs.Calls.{answer_of, checked}
use Rattle.listings.specs.Listings.Machine.{Listing, Line, Request, aborted, act, branch, counters, override, request, goto}
use Rattle.listings.specs.Listings.Machine.{Outside, Inside, Acquire9, Release16, Resume2, Resume4, Resume26}
use Rattle.listings.specs.Listings.Machine.{Cancels, Acts}
use Rattle.listings.specs.Listings.Execution.{actions, drawing, passing, words}
use Rattle.listings.specs.Listings.Shown.{line_of, request_fits}
use Rattle.listings.specs.Listings.Words.{said, say, say_of}
use Rattle.hub.specs.Look.{seen_by}
use Rattle.hub.specs.Moves.{Move}
use Rattle.hub.specs.Moves.{Refuse, Tell, Act, Put, Wake}
use Rattle.hub.specs.Phases.{is_one_of, is_free, is_holding, by_ticket}
use Rattle.hub.specs.Queue.{Queue, look, phases, acted, placed, woken, apply, move_of, next}
use Rattle.hub.specs.Record.{empty_seat, read_slot}
use Rattle.hub.specs.Table.{acquire, can_cancel, cancel, given_up, release, decide, row_in, step_in}
use Rattle.hub.specs.Table.{step_fetching, step_resuming, step_storing, tell_radio}
use Rattle.hub.proofs.Laws.Phases.{one_of}
use Rattle.hub.proofs.Laws.Printed.{few-refusals}
use Rattle.hub.proofs.Laws.Table.{can-cancel}
use Rattle.hub.proofs.Invariant.Tickets.{inside}
use Rattle.hub.proofs.Invariant.Keep.{Inv}
use Rattle.listings.proofs.Listings.Cells.{aborted-apart, cancelled-cell, fresh-apart, fresh-request, parked-request, override-same, override-other}
use Rattle.listings.proofs.Listings.Kept.{Shows, keep, pool-shows, set_to, skip-shows}
use Rattle.listings.proofs.Listings.Known.{line_at, request-at}
use Rattle.listings.proofs.Listings.Played.{Fine, Gives, acts, cancels, ends}
use Rattle.listings.proofs.Listings.Counted.{asked, giving-back, giving-up, unnumbered}
use Rattle.listings.proofs.Listings.Celled.{cancelling, numbered, numbered-marked, refusing}
use Rattle.listings.proofs.Listings.Handed.{handing}

-- 28: cancelled cells that no resume has drawn yet are passed, and the ticket is drawn.
module _ (m : Queue) (p : ℕ) (l : p < length (phases m)) (e : (read_slot m.slots p).phase ≡ Resuming) where
  abbrev drawn : Queue
  drawn =
      let t = m.figures.resumed in
      set_to m p (ResumingAt t) m.cells
      (record { counter = m.figures.counter; issued = m.figures.issued; resumed = t + 1; begun = m.figures.begun })

  -- one cell passed
  passes : (s : Listing) → Shows m s → (n : ℕ) → s.resume_idx + suc n ≡ m.figures.resumed
      → Shows m (goto p Resume2 (goto p (branch s.resume_idx (s.cells s.resume_idx))
      (goto p (Resume4 s.resume_idx) (counters s.state s.suspend_idx (s.resume_idx + 1) s))))
  passes s w n i =
      record {
        counter = w.counter;
        issued = w.issued;
        behind = omega (arith, i);
        passed = λ t u v. w.passed t (omega (arith, u)) v;
        cells = w.cells;
        lines = λ q. line q (ℕ_discrete q p);
        requests = w.requests;
      }
    where
      r : ℕ
      r = s.resume_idx

      l₁ : ℕ → Line
      l₁ = override s.lines p (Resume4 s.resume_idx)

      l₂ : ℕ → Line
      l₂ = override l₁ p (branch s.resume_idx (s.cells s.resume_idx))

      line : (q : ℕ) → Dec (q ≡ p) → override l₂ p Resume2 q ≡ line_of (read_slot m.slots q).phase
      line q (yes y) =
          subst (λ (v : ℕ). override l₂ p Resume2 v ≡ line_of (read_slot m.slots v).phase) (sym y)
          (override-same l₂ p Resume2 ∙ ap line_of (sym e))
      line q (no y) =
          override-other l₂ p Resume2 q y ∙ override-other l₁ p _ q y ∙ override-other s.lines p _ q y ∙ w.lines q

  draws : (n : ℕ) (s : Listing) → Shows m s → s.resume_idx + n ≡ m.figures.resumed
      → Gives drawn (drawing n p) s (passing n s.resume_idx)
  unfolding drawing passing said act request_fits is_one_of
  draws zero s w i =
      acts _ [] s p Resume2 (say_of 0x28 s.resume_idx) [] (line_at m s w p Resuming e) refl
      (ends _ _ (keep m s w p l (ResumingAt m.figures.resumed) m.cells _
      (goto p (Resume4 s.resume_idx) (counters s.state s.suspend_idx (s.resume_idx + 1) s)) w.counter w.issued
      (omega (arith, i)) (λ t u v. w.passed t (omega arith) (omega (arith, i, u, v))) w.cells
      (override-same s.lines p (Resume4 s.resume_idx) ∙ ap Resume4 (omega (arith, i)))
      (λ q d. override-other s.lines p (Resume4 s.resume_idx) q d) (request-at m s w p Resuming e) (λ q d. refl)))
  draws (suc n) s w i =
      let r = s.resume_idx in
      let z = cancelled-cell (s.cells r) (w.passed r (omega arith) (omega (arith, i))) in
      let s₁ = goto p (Resume4 r) (counters s.state s.suspend_idx (r + 1) s) in
      let b = branch r (s.cells r) in
      let y = with_number 0x2C r ∷ passing n (r + 1) in
      acts _ (Acts p ∷ Acts p ∷ drawing n p) s p Resume2 (say_of 0x28 r) y (line_at m s w p Resuming e) refl
      (acts _ (Acts p ∷ drawing n p) s₁ p (Resume4 r) (say_of 0x2C r) (passing n (r + 1)) (override-same s.lines p (Resume4 r)) (rw z)
      (acts _ (drawing n p) (goto p b s₁) p (Resume26 r) [] (passing n (r + 1))
      (override-same s₁.lines p b ∙ ap (branch r) z) refl
      (draws n (goto p Resume2 (goto p b s₁)) (passes s w n i) (omega (arith, i)))))

module _ (k : ℕ) (m : Queue) (inv : Inv k m) (s : Listing) (w : Shows m s) (p : ℕ) (l : p < m.opening.parties) where
  abbrev phase : Phase
  phase = (read_slot m.slots p).phase

  size : p < length (phases m)
  size = inside inv.tickets p l

  carrying : phase ≡ Resuming → Fine Op.Step p m s Resuming (step_resuming (look m p))
  unfolding step_resuming seen_by actions words
  carrying e = draws m p size e (m.figures.resumed - s.resume_idx) s w (omega (arith, w.behind))

  -- Only the phase changes, and neither its line nor its request.
  still : (x : Phase) → line_of phase ≡ line_of x → request_fits x (s.requests p) ≡ true
      → Shows (set_to m p x m.cells m.figures) s
  still x a b =
      keep m s w p size x m.cells m.figures s w.counter w.issued w.behind w.passed w.cells
      (w.lines p ∙ a) (λ q d. refl) b (λ q d. refl)

  fetching : (b : Bool) → phase ≡ Fetching → Fine Op.Step p m s Fetching (step_fetching b (look m p))
  unfolding step_fetching seen_by actions words request_fits is_one_of
  fetching true e = ends _ _ (still Holding (ap line_of e) (request-at m s w p Fetching e))
  fetching false e = ends _ _ w

  storing : phase ≡ Storing → Fine Op.Step p m s Storing (step_storing (look m p))
  unfolding step_storing seen_by actions words request_fits is_one_of
  storing e = ends _ _ (still Free (ap line_of e) (request-at m s w p Storing e))

  seen : (f : Phase) → phase ≡ f → (look m p).seat.place ≡ (by_ticket empty_seat m.cells f).place
  unfolding seen_by
  seen f e = ap (λ (g : Phase). (by_ticket empty_seat m.cells g).place) e

  step-fine : (f : Phase) → phase ≡ f → Fine Op.Step p m s f (step_in f (look m p))
  unfolding row_in seen_by request_fits is_one_of
  step-fine Free e = tt
  step-fine Holding e = tt
  step-fine (Waiting t) e = tt
  step-fine Acquiring e =
      asked m s w p size Acquiring Suspending refl refl (λ g i. (fresh-apart g i, i)) _ refl e
  step-fine Suspending e = unnumbered m s w p size Suspending Ticketed refl (λ t. refl) (λ t g i. i) e
  step-fine (Ticketed t) e = numbered m s w p size t _ (sym (seen (Ticketed t) e)) e
  step-fine (Aborting t) e = giving-up m s w p size t _ refl e
  step-fine (Cancelling t) e = cancelling m s w p size t _ (sym (seen (Cancelling t) e)) e
  step-fine (Refusing t) e = refusing m s w p size t _ (sym (seen (Refusing t) e)) e
  step-fine Releasing e = giving-back m s w p size _ refl e
  step-fine Resuming e = carrying e
  step-fine (ResumingAt t) e = handing k m inv s w p size t e _ (sym (seen (ResumingAt t) e)) refl
  step-fine Fetching e = fetching _ e
  step-fine Storing e = storing e
  step-fine AcquiringMarked e =
      asked m s w p size AcquiringMarked SuspendingMarked refl refl (λ g i. (aborted-apart g i, i)) _ refl e
  step-fine SuspendingMarked e =
      unnumbered m s w p size SuspendingMarked TicketedMarked refl (λ t. refl) (λ t g i. i) e
  step-fine (TicketedMarked t) e = numbered-marked m s w p size t _ (sym (seen (TicketedMarked t) e)) e

  -- The other calls.
  acquire-fine : (a b : Bool) → is_free phase ≡ a → Fine Op.Acquire p m s phase (acquire a b false (look m p))
  unfolding acquire seen_by actions words said act request_fits is_one_of
  acquire-fine false b e = tt
  acquire-fine true true e = tt
  acquire-fine true false e =
      acts _ [] s p Outside (say 0x20) [] (line_at m s w p Free (one_of Free phase e)) refl
      (ends _ _ (keep m s w p size Acquiring m.cells _ (goto p Acquire9 (request p Request.Fresh s)) w.counter w.issued
      w.behind w.passed w.cells (override-same s.lines p Acquire9) (λ q d. override-other s.lines p Acquire9 q d)
      (rw (override-same s.requests p Request.Fresh)) (λ q d. override-other s.requests p Request.Fresh q d)))

  release-fine : (a : Bool) → is_holding phase ≡ a → Fine Op.Release p m s phase (release a (look m p))
  unfolding release seen_by actions words said act request_fits is_one_of
  release-fine false e = tt
  release-fine true e =
      acts _ [] s p Inside (say 0x20) [] (line_at m s w p Holding (one_of Holding phase e)) refl
      (ends _ _ (keep m s w p size Releasing m.cells m.figures (goto p Release16 s) w.counter w.issued
      w.behind w.passed w.cells (override-same s.lines p Release16) (λ q d. override-other s.lines p Release16 q d)
      (request-at m s w p Holding (one_of Holding phase e)) (λ q d. refl)))

  -- The thread is cancelled: its line stays, and its request is aborted.
  cuts : (x : Phase) → line_of phase ≡ line_of x → request_fits x (aborted (s.requests p)) ≡ true
      → Gives (set_to m p x m.cells m.figures) (Cancels p ∷ []) s (say 0x20)
  cuts x a c =
      let g = aborted (s.requests p) in
      cancels _ s p
      (keep m s w p size x m.cells m.figures (request p g s) w.counter w.issued w.behind w.passed
      w.cells (w.lines p ∙ a) (λ q d. refl)
      (subst (λ (h : Request). request_fits x h ≡ true) (sym (override-same s.requests p g)) c)
      (λ q d. override-other s.requests p g q d))

  abbrev GivesUp : Phase → Type 0
  GivesUp f = phase ≡ f → Fine Op.Cancel p m s f (cancel true false (given_up f) (look m p))

  gives_up : (f : Phase) → can_cancel f ≡ true → GivesUp f
  unfolding cancel given_up seen_by actions words request_fits is_one_of
  gives_up =
      can-cancel GivesUp
      (λ t e. cuts (Aborting t) (ap line_of e) (rw (parked-request t (s.requests p) (request-at m s w p (Waiting t) e))))
      (λ e. cuts AcquiringMarked (ap line_of e) (rw (fresh-request (s.requests p) (request-at m s w p Acquiring e))))
      (λ e. cuts SuspendingMarked (ap line_of e) (rw (fresh-request (s.requests p) (request-at m s w p Suspending e))))
      (λ t e. cuts (TicketedMarked t) (ap line_of e) (rw (fresh-request (s.requests p) (request-at m s w p (Ticketed t) e))))

  cancel-fine : (a b : Bool) → can_cancel phase ≡ a → Fine Op.Cancel p m s phase (cancel a b (given_up phase) (look m p))
  unfolding cancel
  cancel-fine false b e = tt
  cancel-fine true true e = tt
  cancel-fine true false e = gives_up phase e refl

  radio-fine : (a : Bool) → Fine Op.Radio p m s phase (tell_radio a (look m p))
  unfolding tell_radio actions words
  radio-fine true = ends _ _ w
  radio-fine false = ends _ _ w

  decide-fine : (o : Op) → Fine o p m s (look m p).slot.phase (decide o false (look m p))
  unfolding decide seen_by
  decide-fine Op.Acquire = acquire-fine _ _ refl
  decide-fine Op.Step = step-fine _ refl
  decide-fine Op.Cancel = cancel-fine _ _ refl
  decide-fine Op.Release = release-fine _ refl
  decide-fine Op.Radio = radio-fine _

-- A refusal stands for no action, and says nothing.
pub no-action : (o : Op) (p n : ℕ) (y : Printed) → y.code < 0x20 → actions o p n y ≡ []
unfolding actions
no-action o p n y i = rw (lt-ltb y.code 0x20 i)

pub no_word : (n : ℕ) (y : Printed) → y.code < 0x20 → words n y ≡ []
unfolding words
no_word n y i =
    rw (ne_eqb y.code 0x28 (λ e. omega (arith, e, i)), lt-leb 0x20 y.code i)

-- One call.
module _ (k : ℕ) (m : Queue) (inv : Inv k m) (s : Listing) (w : Shows m s) (c : Call) where
  abbrev Left : Queue → Move → Type 0
  Left n v =
      Gives n (actions c.op c.party s.resume_idx (printed (answer_of v))) s
      (words s.resume_idx (printed (answer_of v)))

  applied : (v : Move) → Fine c.op c.party m s (look m c.party).slot.phase v
      → Left (apply m (look m c.party) v) v
  unfolding apply seen_by
  applied (Refuse r) g =
      let y = printed (Answer.Refused r) in
      let i : y.code < 0x20 = omega (arith, few-refusals r) in
      subst (λ es. Gives m es s (words s.resume_idx y)) (sym (no-action c.op c.party s.resume_idx y i))
      (subst (λ a. Gives m [] s a) (sym (no_word s.resume_idx y i)) (ends m s w))
  applied (Tell y) g = g
  applied (Act x) g = (skip-shows (acted m c.party x).figures.issued (acted m c.party x) _ g.0, g.1)
  applied (Put b x) g =
      let n = acted (placed m (look m c.party).slot.phase b) c.party x in
      (skip-shows n.figures.issued n _ g.0, g.1)
  applied (Wake q u b x) g =
      let n = acted (placed (woken m q u) (look m c.party).slot.phase b) c.party x in
      (skip-shows n.figures.issued n _ g.0, g.1)

  move-fine : (b : Bool) → ltb c.party m.opening.parties ≡ b
      → Fine c.op c.party m s (look m c.party).slot.phase
      (checked true b (decide c.op false (look m c.party)))
  unfolding checked
  move-fine false i = tt
  move-fine true i = decide-fine k m inv s w c.party (ltb-true _ _ i) c.op

  pub next-shows : Left (next m c) (move_of m c)
  next-shows =
      let g = applied (move_of m c) (move-fine _ refl) in
      (pool-shows _ _ _ g.0, g.1)
