-- How a run ends: each ending is what the definition says where its tests went that way.
use Prim.Native.Nat.{ℕ, ◌/◌, ◌≤◌, ◌<◌}
use mathlib.Core.Path.{◌≡◌, refl, sym, ap, subst, ◌∙◌}
use mathlib.Core.Bool.{Bool, true, false}
use mathlib.Core.List.{List}
use borrow.Author.Tests.{eq-eqb, le-leb, lt-leb, ne_eqb}
use native.Mathlib.Omega.{arith}
use lib.ListN.{length}
use Rattle.std.specs.Prelude.{Err, Ok}
use Rattle.hub.specs.declared.answers.Refusal.{Refusal}
use Rattle.hub.specs.declared.opening.Opening.{Opening}
use Rattle.hub.specs.declared.record.Hub.{Hub}
use Rattle.hub.specs.declared.record.Outcome.{Outcome}
use Rattle.hub.specs.Answers.{printed, refusal_code}
use Rattle.hub.specs.Opening.{opened, opening}
use Rattle.hub.proofs.Laws.Printed.{few-refusals}
use Rattle.encoding.specs.Form.{as_bytes}
use Rattle.encoding.specs.Frame.{is_call}
use Rattle.line.specs.Requests.{Request, to_open, to_call, is_opening}
use Rattle.batch.specs.Batch.{replied, Reachable}
use Rattle.batch.proofs.Laws.Reachable.{reachable-open, opening-reachable}
use Rattle.run.specs.Bytes.{well_formed}
use Rattle.run.specs.Run.{Ended, Ran, end_framed, end_from, end_if, ran_code, written}
use Rattle.run.specs.declared.RunError.{RunError}
use Rattle.run.proofs.Laws.Answers.{all-answered}

-- A run ended so, and left l in the buffer.
abbrev pub Ends : Ended → Ran → List ℕ → Type 0
Ends e r l = (ran_code r ≡ e.result) × (l ≡ e.out)

-- Requests whose codes pass, answered in so many bytes each and written so.
module _ (passes : ℕ → Bool) (width : ℕ) (writes : Hub → List ℕ → List ℕ → List ℕ)
    (k : Opening) (requests out : List ℕ) where
  abbrev Ending : Ran → List ℕ → Type 0
  Ending = Ends (end_from passes width writes (opening k) requests out)

  pub refused : (why : Refusal) → opened (Err why) ≡ opening k → Ending (Err (RunError.NotOpened why)) out
  unfolding end_if
  refused why e =
      let g : (printed (opening k).answer).code ≡ refusal_code why =
      ap (λ (x : Outcome). (printed x.answer).code) (sym e) in
      rw (ne_eqb (printed (opening k).answer).code 0x1F (λ z. omega (arith, z, g, few-refusals why))) (sym g, refl)

  module _ (h : Hub) (e : opened (Ok h) ≡ opening k) where
    made : (printed (opening k).answer).code ≡ 0x1F
    made = ap (λ (x : Outcome). (printed x.answer).code) (sym e)

    pub malformed : well_formed passes requests ≡ false → Ending (Err RunError.Malformed) out
    unfolding end_if
    malformed w = rw (eq-eqb (printed (opening k).answer).code 0x1F made, w) (refl, refl)

    pub no_room : well_formed passes requests ≡ true → length out / width < length requests / 2
        → Ending (Err RunError.NoRoom) out
    unfolding end_if
    no_room w l = rw (eq-eqb (printed (opening k).answer).code 0x1F made, w, lt-leb _ _ l) (refl, refl)

    pub done : (l : List ℕ) → well_formed passes requests ≡ true → length requests / 2 ≤ length out / width
        → l ≡ writes h requests out → Ending (Ok tt) l
    unfolding end_if
    done l w m f =
        rw (eq-eqb (printed (opening k).answer).code 0x1F made, w, le-leb _ _ m) (
          refl,
          f ∙ ap (λ (x : Outcome). writes x.hub requests out) e,
        )

-- The record of an opening that is made needs no check, and the replies to calls are the answers to them.
module _ (k : Opening) (h : Hub) (e : opened (Ok h) ≡ opening k) where
  pub reachable : Reachable h
  reachable =
      subst Reachable (ap (λ (x : Outcome). x.hub) (sym e))
      (opening-reachable k (ap (λ (x : Outcome). x.answer) (sym e)))

  pub all-written : (calls out : List ℕ) → well_formed is_call calls ≡ true
      → replied as_bytes h (length calls / 2) calls out ≡ written h calls out
  all-written calls out w = all-answered calls out h w (reachable-open h reachable)

-- What is no opening makes no run.
pub no-opening : (run : Outcome → List ℕ → List ℕ → Ended) (q : Request) (calls out : List ℕ) → is_opening q ≡ false
    → Ends (end_framed run q calls out) (Err RunError.BadOpening) out
no-opening run Request.malformed calls out e = (refl, refl)
no-opening run (to_open o) calls out e = let z : ◌≡◌ {A = ℕ} 0 1 = cc in absurd (omega arith)
no-opening run (to_call c) calls out e = (refl, refl)
