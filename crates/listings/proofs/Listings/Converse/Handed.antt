-- Actions of resume(..): a draw, the read of a cell, and what follows it.
use Prim.Native.Nat.{ℕ, ◌+◌, ◌<◌}
use mathlib.Core.Path.{◌≡◌, refl, sym, ap, subst, ◌∙◌}
use mathlib.Core.Bool.{Bool, true, false, cond, not, ◌||◌}
use mathlib.Core.List.{List, []}
use mathlib.Core.Logic.{◌≢◌, inl, inr}
use native.Mathlib.Omega.{arith}
use borrow.Author.Tests.{ltb-false, ltb-true}
use lib.Dec.{ltb}
use lib.ListN.{length, length-set, set}
use Rattle.hub.specs.declared.moves.Op.{Op}
use Rattle.hub.specs.declared.record.Phase.TheVariants.{Free, Holding, Waiting, Resuming, ResumingAt}
use Rattle.hub.specs.declared.record.Place.{Place}
use Rattle.hub.specs.declared.record.Place.TheVariants as place
use Rattle.hub.specs.declared.record.PlaceSlot.{PlaceSlot}
use Rattle.hub.specs.Answers.{Printed}
use Rattle.listings.specs.Listings.Converse.{Follows, Where, call_of, phase_of}
use Rattle.listings.specs.Listings.Machine.{Cell, Line, Listing, Request, act, branch, is_null, is_thread_of, mark}
use Rattle.listings.specs.Listings.Machine.{request, goto, unparks}
use Rattle.listings.specs.Listings.Machine.{Outside, Resume2, Resume4, Resume7, Resume10, Resume11, Resume19, Resume26, Resume28}
use Rattle.listings.specs.Listings.Shown.{is_cancelled_cell, is_parked, is_refuse}
use Rattle.listings.specs.Listings.Words.{said, said_of_cell, say_of, say_woke}
use Rattle.hub.specs.Look.{seen_by}
use Rattle.hub.specs.Phases.{by_waiter, is_done, is_one_of, is_place_of, is_waiting}
use Rattle.hub.specs.Queue.{Queue, look, phases, places, write}
use Rattle.hub.specs.Record.{empty_seat, free_slot, read_slot, with_phase, with_place}
use Rattle.hub.specs.Table.{resume_waiter, row_in, step_resuming, step_resuming_at}
use Rattle.hub.proofs.Laws.Bools.{never}
use Rattle.hub.proofs.Laws.Slots.{read-phase, write-phase}
use Rattle.hub.proofs.Invariant.Keep.{Inv}
use Rattle.hub.proofs.Invariant.Rows.{Good, write_same}
use Rattle.hub.proofs.Invariant.Tickets.{inside, party-in}
use Rattle.hub.proofs.Invariant.Weights.{stand}
use Rattle.listings.proofs.Listings.Cells.{cancelled-cell, null-cell, override-other, override-same, refuse-cell, thread-cell}
use Rattle.listings.proofs.Listings.Handed.{waits-here}
use Rattle.listings.proofs.Listings.Kept.{set_to}
use Rattle.listings.proofs.Listings.Waits.{waits-at}
use Rattle.listings.proofs.Listings.Converse.Answered.{After, Answered, good, silent-answered, stepped}
use Rattle.listings.proofs.Listings.Converse.Celled.{seen_at}
use Rattle.listings.proofs.Listings.Converse.Kept.{Moves, follow-call, onward-line}
use Rattle.listings.proofs.Listings.Converse.Onward.{where-kept}
use Rattle.listings.proofs.Listings.Converse.Requests.{parked-waits, waits-parked, woken-at}
use Rattle.listings.proofs.Listings.Converse.Rows.{alone, cell-is, cells-after, count-row, done-row, dones, mark-row, moved}
use Rattle.listings.proofs.Listings.Converse.Rows.{open-place, silent-row}

module _ (k : ℕ) (m : Queue) (inv : Inv k m) (s : Listing) (w : Follows m s) (p : ℕ) (l : p < m.opening.parties) where
  i₀ : p < length (phases m)
  i₀ = inside inv.tickets p l

  -- 6: 2, of a cell that the queue has passed, or of its next
  pub draws : phase_of m p ≡ Resuming → (b : Bool) → ltb s.resume_idx m.figures.resumed ≡ b
      → Answered m (cond b [] (call_of Op.Step p)) (act Resume2 p s) (said Resume2 p s)
  unfolding act said row_in step_resuming seen_by is_one_of
  draws e true i =
      let j = ltb-true s.resume_idx m.figures.resumed i in
      let z = w.passed s.resume_idx (omega arith) j in
      silent-answered m _ (say_of 0x28 s.resume_idx)
      (silent-row m s w p i₀ (Resume4 s.resume_idx) (s.resume_idx + 1) (omega arith) (omega (arith, j))
      (inr (e, record { done = z.done; cancelled = z.cancelled })))
  draws e false i =
      let j = ltb-false s.resume_idx m.figures.resumed i in
      let r : s.resume_idx ≡ m.figures.resumed = omega (arith, j, w.behind) in
      stepped k m inv p l _ _ Resuming e (
        count-row m s w p i₀ (ResumingAt m.figures.resumed) _ (Resume4 s.resume_idx) s.state s.suspend_idx
            (s.resume_idx + 1) w.counter w.issued (omega arith) (omega (arith, w.behind))
            (λ t u v. (let y : ⊥ = omega (arith, u, v, j) in absurd y)) (alone m s w p i₀ Resuming e refl)
            (inl (ap ResumingAt (sym r))),
        rw r,
      )

  -- At a hand-over.
  module _ (t : ℕ) (e : phase_of m p ≡ ResumingAt t) where
    lone-here : not (is_parked (s.requests p)) ≡ true
    unfolding is_one_of
    lone-here = alone m s w p i₀ (ResumingAt t) e refl

    hands : (a : Place) → places m t ≡ a → (s' : Listing) (y : List Printed)
        → After p m (ResumingAt t) s' y (step_resuming_at t (is_waiting (look m p).waiter.phase) a (look m p))
        → Answered m (call_of Op.Step p) s' y
    unfolding row_in seen_by
    hands a i s' y g =
        stepped k m inv p l s' y (ResumingAt t) e
        (subst (λ (b : Place). After p m (ResumingAt t) s' y (step_resuming_at t (is_waiting (look m p).waiter.phase) b (look m p)))
        (sym (seen_at m p (ResumingAt t) e ∙ i)) g)

    listed : (a : Place) → places m t ≡ a
        → Good k Op.Step p m (ResumingAt t) (step_resuming_at t (is_waiting (look m p).waiter.phase) a (look m p))
    unfolding row_in seen_by
    listed a i =
        subst (λ (b : Place). Good k Op.Step p m (ResumingAt t)
        (step_resuming_at t (is_waiting (look m p).waiter.phase) b (look m p)))
        (seen_at m p (ResumingAt t) e ∙ i) (good k m inv p l (ResumingAt t) e)

    -- no permit and nothing done lies there
    no-permit : {A : Type 0} → places m t ≡ place.Permit → A
    unfolding step_resuming_at
    no-permit i = never (sym (listed place.Permit i))

    no-done : {A : Type 0} → places m t ≡ place.Done → A
    unfolding step_resuming_at
    no-done i = never (sym (listed place.Done i))

    -- 6: 4
    abbrev Looks : Cell → Type 0
    Looks c =
        Answered m (cond (is_cancelled_cell c || is_refuse c) (call_of Op.Step p) []) (goto p (branch t c) s) (said_of_cell t c)

    looks : (a : Place) → places m t ≡ a → Looks (s.cells t)
    unfolding is_place_of step_resuming_at seen_by is_one_of
    looks place.Empty i =
        subst Looks (sym (null-cell (s.cells t) (cell-is m s w p i₀ t place.Empty i refl)))
        (silent-answered m _ [] (silent-row m s w p i₀ (Resume7 t) s.resume_idx (omega arith) w.behind e))
    looks (place.Waiting q) i =
        let z = thread-cell q (s.cells t) (cell-is m s w p i₀ t (place.Waiting q) i refl) in
        subst Looks (sym z)
        (silent-answered m _ []
        (silent-row m s w p i₀ (Resume10 t q) s.resume_idx (omega arith) w.behind (e, ap is_null z)))
    looks place.Cancelled i =
        subst Looks (sym (cancelled-cell (s.cells t) (cell-is m s w p i₀ t place.Cancelled i refl)))
        (hands place.Cancelled i (goto p (Resume26 t) s) (say_of 0x2C t)
        (done-row m s w p i₀ t (open-place m s w p i₀ t place.Cancelled i refl) Resuming (Resume26 t) lone-here refl, refl))
    looks place.Refused i =
        subst Looks (sym (refuse-cell (s.cells t) (cell-is m s w p i₀ t place.Refused i refl)))
        (hands place.Refused i (goto p (Resume28 t) s) (say_of 0x2D t)
        (done-row m s w p i₀ t (open-place m s w p i₀ t place.Refused i refl) Free (Resume28 t) lone-here refl, refl))
    looks place.Permit i = no-permit i
    looks place.Done i = no-done i

    pub reads : Looks (s.cells t)
    reads = looks (places m t) refl

    -- back to 6: 4, or on, without a call
    quiet : (y : Line) (a : List Printed) → Where y m (goto p y s) (phase_of m p) (s.requests p) → Answered m [] (goto p y s) a
    quiet y a wh = silent-answered m _ a (silent-row m s w p i₀ y s.resume_idx (omega arith) w.behind wh)

    -- 6: 7
    leaves : (a : Place) → places m t ≡ a → is_null (s.cells t) ≡ true
        → Answered m (call_of Op.Step p) (goto p Outside (mark t Cell.Value s)) (say_of 0x29 t)
    unfolding is_place_of is_one_of
    leaves place.Empty i n =
        hands place.Empty i (goto p Outside (mark t Cell.Value s)) (say_of 0x29 t)
        (unfold step_resuming_at seen_by in (
          mark-row m s w p i₀ t (open-place m s w p i₀ t place.Empty i refl) Free place.Permit Cell.Value Outside (λ d. refl) refl
              lone-here refl,
          refl,
        ))
    leaves (place.Waiting q) i n =
        never (sym n ∙ ap is_null (thread-cell q (s.cells t) (cell-is m s w p i₀ t (place.Waiting q) i refl)))
    leaves place.Cancelled i n =
        never (sym n ∙ ap is_null (cancelled-cell (s.cells t) (cell-is m s w p i₀ t place.Cancelled i refl)))
    leaves place.Refused i n =
        never (sym n ∙ ap is_null (refuse-cell (s.cells t) (cell-is m s w p i₀ t place.Refused i refl)))
    leaves place.Permit i n = no-permit i
    leaves place.Done i n = no-done i

    pub at-seven : (b : Bool) → is_null (s.cells t) ≡ b
        → Answered m (cond b (call_of Op.Step p) []) (cond b (goto p Outside (mark t Cell.Value s)) (goto p (Resume4 t) s))
        (cond b (say_of 0x29 t) [])
    at-seven true n = leaves (places m t) refl n
    at-seven false n = quiet (Resume4 t) [] (inl e)

    -- The waiter's phase.
    same-waiter : (q : ℕ) → places m t ≡ place.Waiting q → (look m p).waiter.phase ≡ phase_of m q
    unfolding seen_by
    same-waiter q i =
        ap (λ (a : Place). (by_waiter free_slot (read_slot m.slots) a).phase) (seen_at m p (ResumingAt t) e ∙ i)

    -- 6: 19, the waiter has given up
    delegates : (q : ℕ) → unparks q t s ≡ false → (a : Place) → places m t ≡ a → is_thread_of q (s.cells t) ≡ true
        → Answered m (call_of Op.Step p) (goto p Outside (mark t Cell.Value s)) (say_of 0x2B t)
    unfolding is_place_of
    delegates q u (place.Waiting r) i n =
        let z : r ≡ q = cc (thread-cell r (s.cells t) (cell-is m s w p i₀ t (place.Waiting r) i refl), thread-cell q (s.cells t) n) in
        let j : places m t ≡ place.Waiting q = i ∙ ap place.Waiting z in
        hands (place.Waiting q) j (goto p Outside (mark t Cell.Value s)) (say_of 0x2B t)
        (go j (is_waiting (look m p).waiter.phase) refl)
      where
        go : places m t ≡ place.Waiting q → (b : Bool) → is_waiting (look m p).waiter.phase ≡ b
            → After p m (ResumingAt t) (goto p Outside (mark t Cell.Value s)) (say_of 0x2B t)
            (step_resuming_at t b (place.Waiting q) (look m p))
        go j true y =
            let h = waits-here t (phase_of m q) (sym (ap is_waiting (same-waiter q j)) ∙ y)
            (ap (stand t) (read-phase m.slots q) ∙ inv.tickets.named t q j) in
            never (sym (waits-parked (phase_of m q) (s.requests q) t (w.parks q) h) ∙ u)
        go j false y =
            unfold step_resuming_at resume_waiter seen_by is_one_of in (
              mark-row m s w p i₀ t (open-place m s w p i₀ t (place.Waiting q) j refl) Free place.Permit Cell.Value Outside
                  (λ d. refl) refl lone-here refl,
              refl,
            )
    delegates q u place.Empty i n =
        never (sym n ∙ ap (is_thread_of q) (null-cell (s.cells t) (cell-is m s w p i₀ t place.Empty i refl)))
    delegates q u place.Cancelled i n =
        never (sym n ∙ ap (is_thread_of q) (cancelled-cell (s.cells t) (cell-is m s w p i₀ t place.Cancelled i refl)))
    delegates q u place.Refused i n =
        never (sym n ∙ ap (is_thread_of q) (refuse-cell (s.cells t) (cell-is m s w p i₀ t place.Refused i refl)))
    delegates q u place.Permit i n = no-permit i
    delegates q u place.Done i n = no-done i

    pub at-nineteen : (q : ℕ) → unparks q t s ≡ false → (b : Bool) → is_thread_of q (s.cells t) ≡ b
        → Answered m (cond b (call_of Op.Step p) []) (cond b (goto p Outside (mark t Cell.Value s)) (goto p (Resume4 t) s))
        (cond b (say_of 0x2B t) [])
    at-nineteen q u true n = delegates q u (places m t) refl n
    at-nineteen q u false n = quiet (Resume4 t) [] (inl e)

    -- 6: 10
    module _ (q : ℕ) (u : unparks q t s ≡ true) where
      waits-q : phase_of m q ≡ Waiting t
      waits-q = parked-waits (phase_of m q) (s.requests q) t (w.parks q) u

      there : places m t ≡ place.Waiting q
      there = waits-at k m inv q t (sym (read-phase m.slots q) ∙ waits-q)

      inside-q : q < length (phases m)
      inside-q =
          inside inv.tickets q
          (party-in inv.tickets q (Waiting t) (sym (read-phase m.slots q) ∙ waits-q)
          (λ z. (let y : ◌≡◌ {A = ℕ} 0 1 = cc in omega arith)))

      -- the woken party first, as if alone
      m' : Queue
      m' = set_to m q Holding m.cells m.figures

      s₁ : Listing
      s₁ = request q Request.Unparked s

      w' : Follows m' s₁
      unfolding m' s₁ is_one_of
      w' =
          let mv : Moves q s (request q Request.Unparked s) (s.lines q) Request.Unparked = record {
            line = refl;
            request = override-same s.requests q Request.Unparked;
            lines = λ r d. refl;
            requests = λ r d. override-other s.requests q Request.Unparked r d;
          } in
          let o = onward-line m (set_to m q Holding m.cells m.figures) s (request q Request.Unparked s) q (s.lines q)
          Request.Unparked mv (omega arith) (λ v d. d) (λ v i j. refl) refl in
          follow-call m s w q inside-q Holding m.cells m.figures (request q Request.Unparked s) (s.lines q) Request.Unparked
          o w.counter w.issued w.behind w.passed w.cells mv
          (where-kept o (s.lines q) Holding Request.Unparked
          (woken-at m s t (s.lines q) (s.requests q) (phase_of m q) waits-q (w.at q)))
          refl

      open-q : is_done (places m t) ≡ false
      unfolding is_place_of
      open-q = open-place m s w p i₀ t (place.Waiting q) there refl

      size : p < length (phases m')
      unfolding m'
      size = omega (arith, i₀, ap length (write-phase m.slots q (with_phase Holding free_slot)), sizes)
        where
          sizes : length (set (phases m) q Holding) ≡ length (phases m)
          sizes = simp length-set

      others : p ≢ q
      others y = let z : ◌≡◌ {A = ℕ} 0 1 = cc (waits-q, e, ap (phase_of m) y) in omega arith

      abbrev done-cells : ℕ → PlaceSlot
      done-cells = write m.cells t (with_place place.Done empty_seat)

      woke : Follows (set_to m' p Free (write m.cells t (with_place place.Done empty_seat)) m.figures) (goto p (Resume11 t) s₁)
      unfolding m' s₁ is_place_of is_one_of
      woke =
          let n = set_to (set_to m q Holding m.cells m.figures) p Free done-cells m.figures in
          let s₀ = request q Request.Unparked s in
          let s₂ = goto p (Resume11 t) s₀ in
          let mv = moved p s₀ s₀ (Resume11 t) refl refl in
          follow-call m' s₁ w' p size Free done-cells m.figures s₂ (Resume11 t) (s₀.requests p)
          (onward-line (set_to m q Holding m.cells m.figures) n s₀ s₂ p (Resume11 t) (s₀.requests p) mv (omega arith)
          (dones m s w p i₀ t open-q place.Done) (λ v i j. j) refl)
          w.counter w.issued w.behind w'.passed
          (cells-after m s w p i₀ t open-q place.Done s.cells (λ d. never d) (λ v d. refl))
          mv (
            refl,
            record {
              done = ap (λ (b : PlaceSlot). b.place) (write_same m.cells t (with_place place.Done empty_seat));
              other = ap is_cancelled_cell (thread-cell q (s.cells t) (cell-is m s w p i₀ t (place.Waiting q) there refl));
            },
          )
          (ap (λ (g : Request). not (is_parked g)) (override-other s.requests q Request.Unparked p others) ∙ lone-here)

      wakes : Answered m (call_of Op.Step p) (goto p (Resume11 t) (request q Request.Unparked s)) (say_woke q t)
      unfolding step_resuming_at resume_waiter seen_by m' s₁
      wakes =
          hands (place.Waiting q) there (goto p (Resume11 t) (request q Request.Unparked s)) (say_woke q t)
          (subst (λ (b : Bool). After p m (ResumingAt t) (goto p (Resume11 t) (request q Request.Unparked s)) (say_woke q t)
          (step_resuming_at t b (place.Waiting q) (look m p)))
          (sym (ap is_waiting (same-waiter q there ∙ waits-q) ∙ is-waiting)) (woke, refl))
        where
          is-waiting : is_waiting (Waiting t) ≡ true
          is-waiting = unfold is_one_of in refl

    pub at-ten : (q : ℕ) → is_null (s.cells t) ≡ false → (b : Bool) → unparks q t s ≡ b
        → Answered m (cond b (call_of Op.Step p) [])
        (cond b (goto p (Resume11 t) (request q Request.Unparked s)) (goto p (Resume19 t q) s)) (cond b (say_woke q t) [])
    at-ten q n true u = wakes q u
    at-ten q n false u = quiet (Resume19 t q) [] (e, n, u)
