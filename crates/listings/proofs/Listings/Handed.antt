-- A hand-over's rows as actions of the listings: 29 and 2A to 2D.
use Prim.Native.Nat.{ℕ, ◌<◌}
use mathlib.Core.Path.{◌≡◌, refl, sym, ap, subst, ◌∙◌}
use mathlib.Core.Bool.{Bool, true, false, not}
use mathlib.Core.List.{[], ◌∷◌}
use mathlib.Core.Logic.{◌≢◌}
use native.Mathlib.Decide.{ℕ_discrete}
use native.Mathlib.Omega.{arith}
use lib.ListN.{length, length-set, set}
use Rattle.hub.specs.declared.moves.Op.{Op}
use Rattle.hub.specs.declared.record.Phase.{Phase}
use Rattle.hub.specs.declared.record.Phase.TheVariants.{Free, Holding, Waiting}
use Rattle.hub.specs.declared.record.Phase.TheVariants.{Resuming, ResumingAt}
use Rattle.hub.specs.declared.record.Place.{Place}
use Rattle.hub.specs.declared.record.Place.TheVariants as place
use Rattle.listings.specs.Listings.Machine.{Cell, Listing, Request, act, branch, is_null, is_parked_at, is_thread_of, mark, park}
use Rattle.listings.specs.Listings.Machine.{override, request, goto}
use Rattle.listings.specs.Listings.Machine.{Outside, Inside, Suspend10, Resume4, Resume7, Resume10, Resume11, Resume19, Resume26, Resume28}
use Rattle.listings.specs.Listings.Machine.{Acts}
use Rattle.listings.specs.Listings.Execution.{actions, words}
use Rattle.listings.specs.Listings.Shown.{is_cancelled_cell, is_last_mark, is_parked, request_fits}
use Rattle.listings.specs.Listings.Words.{said, said_at_park, say_of, say_woke}
use Rattle.hub.specs.Look.{seen_by}
use Rattle.hub.specs.Phases.{by_waiter, is_one_of, is_waiting, ticket_of}
use Rattle.hub.specs.Queue.{Queue, look, phases, places, write}
use Rattle.hub.specs.Record.{empty_seat, free_slot, read_slot, with_phase, with_place}
use Rattle.hub.specs.Table.{resume_waiter, step_resuming_at}
use Rattle.hub.proofs.Laws.Bools.{never}
use Rattle.hub.proofs.Laws.Phases.{one_of}
use Rattle.hub.proofs.Laws.Slots.{read-phase, write-phase}
use Rattle.hub.proofs.Invariant.Weights.{pick, stand, same-eq}
use Rattle.hub.proofs.Invariant.Tickets.{inside, party-in}
use Rattle.hub.proofs.Invariant.Keep.{Inv}
use Rattle.listings.proofs.Listings.Cells.{cancelled-cell, not-parked, null-cell, override-other, override-same}
use Rattle.listings.proofs.Listings.Cells.{refuse-cell, thread-cell}
use Rattle.listings.proofs.Listings.Kept.{Shows, keep, set_to}
use Rattle.listings.proofs.Listings.Known.{Came, apart-unless, came-here, came-to, cell_at, cell-kept, cell-written, line_at, line-now, other-cell}
use Rattle.listings.proofs.Listings.Known.{request-at}
use Rattle.listings.proofs.Listings.Played.{Fine, acts, ends, not_so, parking, parks, so}

-- The waiter's phase, by its ticket.
pub waits-here : (t : ℕ) (g : Phase) → is_waiting g ≡ true → stand t g ≡ 1 → g ≡ Waiting t
unfolding pick is_one_of
waits-here t g y o =
    let v = one_of (Waiting 0) g y in
    v ∙ ap Waiting (same-eq (ticket_of g) t (omega (arith, ap (stand t) v)))

module _ (k : ℕ) (m : Queue) (inv : Inv k m) (s : Listing) (w : Shows m s) (p : ℕ) (l : p < length (phases m)) (t : ℕ)
    (e : (read_slot m.slots p).phase ≡ ResumingAt t) where
  -- 6: 4
  looks : (c : Cell) → s.cells t ≡ c → (goto p (branch t (s.cells t)) s).lines p ≡ branch t c
  looks c z = line-now p (branch t (s.cells t)) s ∙ ap (branch t) z

  own_line : s.lines p ≡ Resume4 t
  own_line = line_at m s w p (ResumingAt t) e

  apart : not (is_parked (s.requests p)) ≡ true
  unfolding request_fits is_one_of
  apart = request-at m s w p (ResumingAt t) e

  -- 29
  leaves : places m t ≡ place.Empty → Fine Op.Step p m s (ResumingAt t) (step_resuming_at t false place.Empty (look m p))
  unfolding step_resuming_at seen_by actions words said act request_fits is_one_of
  leaves i =
      let z = null-cell (s.cells t) (cell_at m s w t place.Empty i) in
      let s₁ = goto p (branch t (s.cells t)) s in
      acts _ (Acts p ∷ []) s p (Resume4 t) [] (say_of 0x29 t) own_line (rw z)
      (acts _ [] s₁ p (Resume7 t) (say_of 0x29 t) [] (looks Cell.Null z) (rw z)
      (so _ [] (is_null (s.cells t)) _ _ _ (ap is_null z)
      (ends _ _ (cell-written m s w p l Free t place.Permit s₁ (came-to p s s _ (came-here p s)) Outside refl apart
      Cell.Value refl (other-cell s t Cell.Null Cell.Value z refl)))))

  -- 2C
  skips : places m t ≡ place.Cancelled
      → Fine Op.Step p m s (ResumingAt t) (step_resuming_at t false place.Cancelled (look m p))
  unfolding step_resuming_at seen_by actions words said act request_fits is_one_of
  skips i =
      let z = cancelled-cell (s.cells t) (cell_at m s w t place.Cancelled i) in
      let s₁ = goto p (branch t (s.cells t)) s in
      acts _ (Acts p ∷ []) s p (Resume4 t) (say_of 0x2C t) [] own_line (rw z)
      (acts _ [] s₁ p (Resume26 t) [] [] (looks Cell.Cancelled z) refl
      (ends _ _ (cell-kept m s w p l Resuming t place.Done s₁ (came-to p s s _ (came-here p s)) _ refl apart (ap is_last_mark z))))

  -- 2D
  is-refused : places m t ≡ place.Refused
      → Fine Op.Step p m s (ResumingAt t) (step_resuming_at t false place.Refused (look m p))
  unfolding step_resuming_at seen_by actions words said act request_fits is_one_of
  is-refused i =
      let z = refuse-cell (s.cells t) (cell_at m s w t place.Refused i) in
      let s₁ = goto p (branch t (s.cells t)) s in
      acts _ (Acts p ∷ []) s p (Resume4 t) (say_of 0x2D t) [] own_line (rw z)
      (acts _ [] s₁ p (Resume28 t) [] [] (looks Cell.Refuse z) refl
      (ends _ _ (cell-kept m s w p l Free t place.Done s₁ (came-to p s s _ (came-here p s)) _ refl apart (ap is_last_mark z))))

  module _ (q : ℕ) (i : places m t ≡ place.Waiting q) where
    z₀ : s.cells t ≡ Cell.Thread q
    z₀ = thread-cell q (s.cells t) (cell_at m s w t (place.Waiting q) i)

    -- 2B
    delegates : is_waiting (read_slot m.slots q).phase ≡ false
        → Fine Op.Step p m s (ResumingAt t) (resume_waiter false q t (look m p))
    unfolding resume_waiter seen_by actions words said act request_fits is_one_of
    delegates v =
        let f = not-parked t (s.requests q) (apart-unless (read_slot m.slots q).phase (s.requests q) v (w.requests q)) in
        let s₁ = goto p (branch t (s.cells t)) s in
        let s₂ = goto p (Resume19 t q) s₁ in
        acts _ (Acts p ∷ Acts p ∷ []) s p (Resume4 t) [] (say_of 0x2B t) own_line (rw z₀)
        (acts _ (Acts p ∷ []) s₁ p (Resume10 t q) [] (say_of 0x2B t) (looks (Cell.Thread q) z₀) (rw f)
        (not_so _ (Acts p ∷ []) (is_parked_at t (s.requests q)) _ _ _ f
        (acts _ [] s₂ p (Resume19 t q) (say_of 0x2B t) [] (line-now p (Resume19 t q) s₁)
        (rw (cell_at m s w t (place.Waiting q) i))
        (so _ [] (is_thread_of q (s.cells t)) _ _ _ (cell_at m s w t (place.Waiting q) i)
        (ends _ _ (cell-written m s w p l Free t place.Permit s₂
        (came-to p s s₁ (Resume19 t q) (came-to p s s _ (came-here p s))) Outside refl apart
        Cell.Value refl (other-cell s t (Cell.Thread q) Cell.Value z₀ refl)))))))

    -- 2A: the woken party first, as if alone
    module _ (f : (read_slot m.slots q).phase ≡ Waiting t) where
      others : q ≢ p
      others y =
          let z : ◌≡◌ {A = ℕ} 0 1 = cc (ap (λ (r : ℕ). (read_slot m.slots r).phase) y) in omega arith

      wins : is_parked_at t (s.requests q) ≡ true
      unfolding request_fits is_one_of
      wins = request-at m s w q (Waiting t) f

      inside-q : q < length (phases m)
      inside-q =
          inside inv.tickets q
          (party-in inv.tickets q (Waiting t) (sym (read-phase m.slots q) ∙ f)
          (λ z. (let y : ◌≡◌ {A = ℕ} 0 1 = cc in omega arith)))

      m' : Queue
      m' = set_to m q Holding m.cells m.figures

      s' : Listing
      s' = goto q Inside (request q Request.Unparked s)

      w' : Shows m' s'
      unfolding m' s' request_fits is_one_of
      w' =
          keep m s w q inside-q Holding m.cells m.figures s' w.counter w.issued w.behind w.passed w.cells
          (override-same s.lines q Inside) (λ r d. override-other s.lines q Inside r d)
          (ap (λ (g : Request). not (is_parked g)) (override-same s.requests q Request.Unparked))
          (λ r d. override-other s.requests q Request.Unparked r d)

      size : p < length (phases m')
      unfolding m'
      size = omega (arith, l, ap length (write-phase m.slots q (with_phase Holding free_slot)), sizes)
        where
          sizes : length (set (phases m) q Holding) ≡ length (phases m)
          sizes = simp length-set

      -- what the actions leave, one after the other
      s₂ : Listing
      s₂ = goto p (Resume11 t) (request q Request.Unparked (goto p (branch t (s.cells t)) s))

      s₃ : Listing
      unfolding s₂
      s₃ = goto q Inside s₂

      came : Came p s' s₃
      unfolding s' s₂ s₃
      came =
          record {
            state = refl;
            suspend_idx = refl;
            resume_idx = refl;
            cells = refl;
            requests = refl;
            lines = λ r d. line r d (ℕ_discrete r q);
          }
        where
          line : (r : ℕ) → r ≢ p → Dec (r ≡ q)
              → override (override (override s.lines p (branch t (s.cells t))) p (Resume11 t)) q Inside r ≡ override s.lines q Inside r
          line r d (yes y) =
              subst (λ (v : ℕ). override (override (override s.lines p (branch t (s.cells t))) p (Resume11 t)) q Inside v
              ≡ override s.lines q Inside v) (sym y)
              (override-same (override (override s.lines p (branch t (s.cells t))) p (Resume11 t)) q Inside
              ∙ sym (override-same s.lines q Inside))
          line r d (no y) =
              override-other (override (override s.lines p (branch t (s.cells t))) p (Resume11 t)) q Inside r y
              ∙ override-other (override s.lines p (branch t (s.cells t))) p (Resume11 t) r d
              ∙ override-other s.lines p (branch t (s.cells t)) r d
              ∙ sym (override-other s.lines q Inside r y)

      last : Shows (set_to m' p Free (write m.cells t (with_place place.Done empty_seat)) m.figures)
          (goto p Outside (mark t Cell.Resumed s₃))
      unfolding m' s' request_fits is_one_of
      last =
          cell-written m' s' w' p size Free t place.Done s₃ came Outside refl
          (ap (λ (g : Request). not (is_parked g)) (override-other s.requests q Request.Unparked p (λ y. others (sym y))) ∙ apart)
          Cell.Resumed refl (λ z. never (sym z ∙ ap is_cancelled_cell z₀))

      wakes : Fine Op.Step p m s (ResumingAt t) (resume_waiter true q t (look m p))
      unfolding resume_waiter seen_by actions words said said_at_park act park m' s₂ s₃
      wakes =
          let b = branch t (s.cells t) in
          let g = override-same s.requests q Request.Unparked in
          let h = line_at m s w q (Waiting t) f in
          acts _ (Acts p ∷ Acts q ∷ Acts p ∷ []) s p (Resume4 t) [] (say_woke q t) own_line (rw z₀)
          (acts _ (Acts q ∷ Acts p ∷ []) (goto p b s) p (Resume10 t q) (say_woke q t) [] (looks (Cell.Thread q) z₀) (rw wins)
          (so _ (Acts q ∷ Acts p ∷ []) (is_parked_at t (s.requests q)) _ _ _ wins
          (acts _ (Acts p ∷ []) s₂ q (Suspend10 t) [] []
          (override-other (override s.lines p b) p (Resume11 t) q others ∙ override-other s.lines p b q others ∙ h)
          (parking s₂ q t Request.Unparked g)
          (parks _ (Acts p ∷ []) s₂ q t Request.Unparked [] g
          (acts _ [] s₃ p (Resume11 t) [] []
          (override-other (override (override s.lines p b) p (Resume11 t)) q Inside p (λ y. others (sym y))
          ∙ override-same (override s.lines p b) p (Resume11 t)) refl
          (ends _ _ last))))))

  pub handing : (a : Place) → places m t ≡ a → (look m p).seat.place ≡ a
      → Fine Op.Step p m s (ResumingAt t) (step_resuming_at t (is_waiting (look m p).waiter.phase) a (look m p))
  unfolding step_resuming_at seen_by
  handing place.Empty i j = leaves i
  handing (place.Waiting q) i j = go (is_waiting (look m p).waiter.phase) refl
    where
      same-waiter : (look m p).waiter.phase ≡ (read_slot m.slots q).phase
      same-waiter = ap (λ (a : Place). (by_waiter free_slot (read_slot m.slots) a).phase) j

      go : (b : Bool) → is_waiting (look m p).waiter.phase ≡ b
          → Fine Op.Step p m s (ResumingAt t) (resume_waiter b q t (look m p))
      go true y =
          wakes q i
          (waits-here t (read_slot m.slots q).phase (sym (ap is_waiting same-waiter) ∙ y)
          (ap (stand t) (read-phase m.slots q) ∙ inv.tickets.named t q i))
      go false y = delegates q i (sym (ap is_waiting same-waiter) ∙ y)
  handing place.Cancelled i j = skips i
  handing place.Refused i j = is-refused i
  handing place.Permit i j = tt
  handing place.Done i j = tt
