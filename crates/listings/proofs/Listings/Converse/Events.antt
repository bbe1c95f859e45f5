-- Every event: the next action of a thread, and a cancel().
use Prim.Native.Nat.{ℕ, ◌<◌}
use mathlib.Core.Path.{◌≡◌, refl, sym, ap, subst}
use mathlib.Core.Bool.{Bool, true, false, cond, ◌||◌}
use mathlib.Core.List.{List, [], ◌∷◌}
use mathlib.Core.Logic.{inl, inr}
use native.Mathlib.Omega.{arith}
use lib.Dec.{eqb, leb, ltb}
use lib.ListN.{length}
use Rattle.hub.specs.declared.moves.Call.{Call}
use Rattle.hub.specs.declared.moves.Op.{Op}
use Rattle.hub.specs.declared.record.Phase.TheVariants.{Resuming}
use Rattle.hub.specs.Kinds.{kind_in}
use Rattle.listings.specs.Listings.Converse.{Follows, Where, call_of, decides, phase_of}
use Rattle.listings.specs.Listings.Machine.{Cell, Line, Listing, aborted, act, branch, is_null, is_parked_at, is_thread_of, request, goto, unparks}
use Rattle.listings.specs.Listings.Machine.{Outside, Inside, Acquire9, Suspend6, Suspend9, Suspend10, Suspend12, Taking12}
use Rattle.listings.specs.Listings.Machine.{Release16, Resume2, Resume4, Resume7, Resume10, Resume11, Resume19}
use Rattle.listings.specs.Listings.Machine.{Resume26, Resume28, Handler45, Handler55}
use Rattle.listings.specs.Listings.Shown.{is_cancelled_cell, is_refuse}
use Rattle.listings.specs.Listings.Words.{said, said_of_cell, say}
use Rattle.hub.specs.Look.{seen_by}
use Rattle.hub.specs.Phases.{is_one_of}
use Rattle.hub.specs.Queue.{Queue, look, phases}
use Rattle.hub.specs.Record.{MAX_BEGUN}
use Rattle.hub.specs.Table.{can_cancel, cancel, decide, given_up}
use Rattle.hub.proofs.Invariant.Keep.{Inv}
use Rattle.hub.proofs.Invariant.Tickets.{inside}
use Rattle.listings.proofs.Listings.Cells.{cancelled-cell, not-parked, override-other, override-same}
use Rattle.listings.proofs.Listings.Kept.{set_to}
use Rattle.listings.proofs.Listings.Converse.Onward.{where-kept}
use Rattle.listings.proofs.Listings.Converse.Kept.{Moves, follow-call, follow-silent, onward-line}
use Rattle.listings.proofs.Listings.Converse.Requests.{aborted-none, cannot-not, given-up-not, gives_up, lone-fits, stays}
use Rattle.listings.proofs.Listings.Converse.Answered.{After, Answered, answered, silent-answered}
use Rattle.listings.proofs.Listings.Converse.Rows.{late-row, silent-row}
use Rattle.listings.proofs.Listings.Converse.Counted.{acquiring, outside, parking, releasing, suspending, within}
use Rattle.listings.proofs.Listings.Converse.Celled.{cancelling, refusing, ticketed}
use Rattle.listings.proofs.Listings.Converse.Handed.{at-nineteen, at-seven, at-ten, draws, reads}

module _ (k : ℕ) (m : Queue) (inv : Inv k m) (s : Listing) (w : Follows m s) (p : ℕ) (l : p < m.opening.parties) where
  i₀ : p < length (phases m)
  i₀ = inside inv.tickets p l

  abbrev Goes : Line → List Call → Type 0
  Goes x cs = Answered m cs (act x p s) (said x p s)

  -- where p is
  own : (x : Line) → s.lines p ≡ x → Where x m s (phase_of m p) (s.requests p)
  own x e = subst (λ (y : Line). Where y m s (phase_of m p) (s.requests p)) e (w.at p)

  -- it only comes to line y
  on-to : (y : Line) → Where y m (goto p y s) (phase_of m p) (s.requests p) → Answered m [] (goto p y s) []
  on-to y z = silent-answered m _ [] (silent-row m s w p i₀ y s.resume_idx (omega arith) w.behind z)

  at-four : (i : ℕ) → Where (Resume4 i) m s (phase_of m p) (s.requests p) → Goes (Resume4 i) (decides (Resume4 i) p m s)
  unfolding act said decides is_one_of
  at-four i (inl z) =
      subst (λ (b : Bool). Answered m
      (cond b [] (cond (is_cancelled_cell (s.cells i) || is_refuse (s.cells i)) (call_of Op.Step p) []))
      (goto p (branch i (s.cells i)) s) (said_of_cell i (s.cells i))) (sym (ap (is_one_of (Resuming ∷ [])) z))
      (reads k m inv s w p l i z)
  at-four i (inr z) =
      subst (λ (b : Bool). Answered m
      (cond b [] (cond (is_cancelled_cell (s.cells i) || is_refuse (s.cells i)) (call_of Op.Step p) []))
      (goto p (branch i (s.cells i)) s) (said_of_cell i (s.cells i))) (sym (ap (is_one_of (Resuming ∷ [])) z.0))
      (silent-answered m _ (said_of_cell i (s.cells i))
      (subst (λ (c : Cell). Follows m (goto p (branch i c) s)) (sym (cancelled-cell (s.cells i) z.1.cancelled))
      (silent-row m s w p i₀ (Resume26 i) s.resume_idx (omega arith) w.behind z.0)))

  pub goes : m.opening.named ≡ false → (x : Line) → s.lines p ≡ x → leb MAX_BEGUN m.figures.begun ≡ false
      → Goes x (decides x p m s)
  unfolding decides
  goes n Outside e b = outside k m inv s w p l n (own Outside e) b
  goes n Inside e b = within k m inv s w p l n (own Inside e)
  goes n Acquire9 e b = acquiring k m inv s w p l n (s.requests p) refl (own Acquire9 e)
  goes n Suspend6 e b = suspending k m inv s w p l n (s.requests p) refl (own Suspend6 e)
  goes n (Suspend9 i) e b = ticketed k m inv s w p l i (s.requests p) refl (own (Suspend9 i) e)
  goes n (Suspend10 i) e b = parking k m inv s w p l n i (own (Suspend10 i) e)
  goes n (Suspend12 i) e b =
      let z = own (Suspend12 i) e in
      unfold act said in on-to (Taking12 i) (z.0, record { done = z.1.done; other = z.1.other })
  goes n (Taking12 i) e b =
      let z = own (Taking12 i) e in
      unfold act said in silent-answered m _ [] (late-row m s w p i₀ Inside i Cell.Taken z.1 refl refl z.0)
  goes n Release16 e b = releasing k m inv s w p l n (own Release16 e)
  goes n Resume2 e b = draws k m inv s w p l (own Resume2 e) (ltb s.resume_idx m.figures.resumed) refl
  goes n (Resume4 i) e b = at-four i (own (Resume4 i) e)
  goes n (Resume7 i) e b = unfold act said in at-seven k m inv s w p l i (own (Resume7 i) e) (is_null (s.cells i)) refl
  goes n (Resume10 i q) e b =
      let z = own (Resume10 i q) e in
      unfold act said in at-ten k m inv s w p l i z.0 q z.1 (unparks q i s) refl
  goes n (Resume11 i) e b =
      let z = own (Resume11 i) e in
      unfold act said in silent-answered m _ [] (late-row m s w p i₀ Outside i Cell.Resumed z.1 refl refl z.0)
  goes n (Resume19 i q) e b =
      let z = own (Resume19 i q) e in
      unfold act said in at-nineteen k m inv s w p l i z.0 q z.2 (is_thread_of q (s.cells i)) refl
  goes n (Resume26 i) e b = unfold act said in on-to Resume2 (own (Resume26 i) e)
  goes n (Resume28 i) e b = unfold act said in on-to Outside (own (Resume28 i) e)
  goes n (Handler45 i) e b = cancelling k m inv s w p l i (own (Handler45 i) e)
  goes n (Handler55 i) e b = refusing k m inv s w p l i (own (Handler55 i) e)

  -- A cancel(): its line stays, and its request is aborted.
  abbrev after-cancel : Listing
  after-cancel = request p (aborted (s.requests p)) s

  mv : Moves p s (request p (aborted (s.requests p)) s) (s.lines p) (aborted (s.requests p))
  mv =
      record {
        line = refl;
        request = override-same s.requests p (aborted (s.requests p));
        lines = λ q d. refl;
        requests = λ q d. override-other s.requests p (aborted (s.requests p)) q d;
      }

  none-parked : (t : ℕ) → is_null (s.cells t) ≡ false → unparks p t s ≡ false
      → is_parked_at t (aborted (s.requests p)) ≡ false
  none-parked t i j = not-parked t (aborted (s.requests p)) (aborted-none (s.requests p))

  too-late : can_cancel (phase_of m p) ≡ false → Follows m after-cancel
  too-late c =
      let g = aborted (s.requests p) in
      let o = onward-line m m s after-cancel p (s.lines p) g mv (omega arith) (λ t d. d) none-parked refl in
      follow-silent m s w p after-cancel (s.lines p) g o refl refl w.behind w.cells mv
      (where-kept o (s.lines p) (phase_of m p) g (stays m s (s.lines p) (phase_of m p) (s.requests p) c (w.at p)))
      (lone-fits (phase_of m p) g (cannot-not (phase_of m p) c) (aborted-none (s.requests p)))

  pub cancelled : eqb (kind_in m.opening.kinds p) 3 ≡ false → (b : Bool) → can_cancel (phase_of m p) ≡ b
      → Answered m (cond b (call_of Op.Cancel p) []) after-cancel (say 0x20)
  unfolding decide cancel seen_by
  cancelled kd true c =
      let f = phase_of m p in
      let g = aborted (s.requests p) in
      let n = set_to m p (given_up f) m.cells m.figures in
      let o = onward-line m n s after-cancel p (s.lines p) g mv (omega arith) (λ t d. d) none-parked refl in
      answered k m inv p l after-cancel (say 0x20) Op.Cancel
      (subst (λ (u : Bool). After p m f after-cancel (say 0x20)
      (cancel u (eqb (kind_in m.opening.kinds p) 3) (given_up f) (look m p))) (sym c)
      (subst (λ (u : Bool). After p m f after-cancel (say 0x20) (cancel true u (given_up f) (look m p))) (sym kd) (
        follow-call m s w p i₀ (given_up f) m.cells m.figures after-cancel (s.lines p) g o
            w.counter w.issued w.behind w.passed w.cells mv
            (where-kept o (s.lines p) (given_up f) g (gives_up m s (s.lines p) f (s.requests p) c (w.at p)))
            (lone-fits (given_up f) g (given-up-not f c) (aborted-none (s.requests p))),
        refl,
      )))
  cancelled kd false c = silent-answered m _ (say 0x20) (too-late c)
