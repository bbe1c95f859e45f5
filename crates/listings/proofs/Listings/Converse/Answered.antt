-- What a call leaves and answers, from its move; and a call that an action of thread p makes.
use Prim.Native.Nat.{ℕ, ◌<◌}
use mathlib.Core.Path.{◌≡◌, refl, sym, subst}
use mathlib.Core.Bool.{Bool, true, false}
use mathlib.Core.List.{List, [], ◌∷◌, map}
use borrow.Author.Tests.{lt-ltb}
use Rattle.hub.specs.declared.moves.Call.{Call}
use Rattle.hub.specs.declared.moves.Op.{Op}
use Rattle.hub.specs.declared.record.Phase.{Phase}
use Rattle.hub.specs.Answers.{Printed, printed}
use Rattle.hub.specs.Calls.{answer_of, checked}
use Rattle.listings.specs.Listings.Converse.{Follows, call_of, phase_of, said_for}
use Rattle.listings.specs.Listings.Machine.{Listing}
use Rattle.hub.specs.Look.{seen_by}
use Rattle.hub.specs.Moves.{Move}
use Rattle.hub.specs.Moves.{Refuse, Tell, Act, Put, Wake}
use Rattle.hub.specs.Queue.{Queue, acted, answers, apply, look, move_of, placed, run, woken}
use Rattle.hub.specs.Table.{decide, step_in}
use Rattle.hub.proofs.Invariant.Keep.{Inv}
use Rattle.hub.proofs.Invariant.Rows.{Good}
use Rattle.hub.proofs.Invariant.Walk.{decide-good}
use Rattle.listings.proofs.Listings.Converse.Onward.{pool-follows, skip-follows}

-- A move's queue, before the tidying, follows to s, and its answer is a.
abbrev pub After : ℕ → Queue → Phase → Listing → List Printed → Move → Type 0
After p m f s a (Refuse r) = ⊥
After p m f s a (Tell y) = ⊥
After p m f s a (Act c) = Follows (acted m p c) s × (printed c.answer ∷ [] ≡ a)
After p m f s a (Put b c) = Follows (acted (placed m f b) p c) s × (printed c.answer ∷ [] ≡ a)
After p m f s a (Wake q x b c) = Follows (acted (placed (woken m q x) f b) p c) s × (printed c.answer ∷ [] ≡ a)

-- Calls follow to s, and are answered by a if there is one.
abbrev pub Answered : Queue → List Call → Listing → List Printed → Type 0
Answered m cs s a = Follows (run m cs) s × (map printed (answers m cs) ≡ said_for cs a)

pub silent-answered : (m : Queue) (s : Listing) (a : List Printed) → Follows m s → Answered m [] s a
unfolding run answers
silent-answered m s a w = (w, refl)

module _ (k : ℕ) (m : Queue) (inv : Inv k m) (p : ℕ) (l : p < m.opening.parties) (s : Listing) (a : List Printed) where
  applied : (v : Move) → After p m (look m p).slot.phase s a v
      → Follows (apply m (look m p) v) s × (printed (answer_of v) ∷ [] ≡ a)
  unfolding apply seen_by
  applied (Refuse r) g = absurd g
  applied (Tell y) g = absurd g
  applied (Act x) g = (skip-follows (acted m p x).figures.issued (acted m p x) _ g.0, g.1)
  applied (Put b x) g =
      let n = acted (placed m (look m p).slot.phase b) p x in
      (skip-follows n.figures.issued n _ g.0, g.1)
  applied (Wake q u b x) g =
      let n = acted (placed (woken m q u) (look m p).slot.phase b) p x in
      (skip-follows n.figures.issued n _ g.0, g.1)

  pub answered : (o : Op) → After p m (phase_of m p) s a (decide o false (look m p)) → Answered m (call_of o p) s a
  unfolding run answers checked seen_by
  answered o g =
      let z = applied (move_of m (record { op = o; party = p }))
      (subst (λ (b : Bool). After p m (phase_of m p) s a (checked true b (decide o false (look m p)))) (sym (lt-ltb p _ l)) g) in
      (pool-follows _ _ _ z.0, z.1)

  pub stepped : (f : Phase) → phase_of m p ≡ f → After p m f s a (step_in f (look m p)) → Answered m (call_of Op.Step p) s a
  stepped f e g =
      answered Op.Step (unfold decide seen_by in (subst (λ (h : Phase). After p m h s a (step_in h (look m p))) (sym e) g))

-- The move of a step is listed in the table.
pub good : (k : ℕ) (m : Queue) → Inv k m → (p : ℕ) → p < m.opening.parties → (f : Phase) → phase_of m p ≡ f
    → Good k Op.Step p m f (step_in f (look m p))
good k m inv p l f e =
    subst (λ (h : Phase). Good k Op.Step p m h (step_in h (look m p))) e
    (unfold decide seen_by in decide-good k m p l inv Op.Step)
