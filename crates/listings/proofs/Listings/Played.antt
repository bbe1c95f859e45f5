-- Events played, and what they say.
use Prim.Native.Nat.{ℕ}
use mathlib.Core.Path.{◌≡◌, refl, sym, ap, ap₂, subst}
use mathlib.Core.Bool.{Bool, true, false, cond}
use mathlib.Core.List.{List, [], ◌∷◌, ◌++◌}
use Rattle.hub.specs.declared.answers.Answer.{Answer}
use Rattle.hub.specs.declared.moves.Op.{Op}
use Rattle.hub.specs.declared.record.Phase.{Phase}
use Rattle.hub.specs.Answers.{Printed, printed}
use Rattle.listings.specs.Listings.Machine.{Event, Line, Listing, Request, aborted, act, happen, park, play, request}
use Rattle.listings.specs.Listings.Machine.{Acts, Cancels, Suspend10}
use Rattle.listings.specs.Listings.Words.{said, said_at, said_at_park, say, told}
use Rattle.listings.specs.Listings.Execution.{actions, words}
use Rattle.hub.specs.Moves.{Move}
use Rattle.hub.specs.Moves.{Refuse, Tell, Act, Put, Wake}
use Rattle.hub.specs.Queue.{Queue, acted, placed, woken}
use Rattle.listings.proofs.Listings.Kept.{Shows}

-- Played, events come to what the queue n shows, and say a.
abbrev pub Gives : Queue → List Event → Listing → List Printed → Type 0
Gives n es s a = Shows n (play es s) × (told es s ≡ a)

pub ends : (n : Queue) (s : Listing) → Shows n s → Gives n [] s []
unfolding play told
ends n s w = (w, refl)

-- An action of a thread whose line is known; a test that is known.
pub acts : (n : Queue) (es : List Event) (s : Listing) (p : ℕ) (x : Line) (a b : List Printed)
    → s.lines p ≡ x → said x p s ≡ a → Gives n es (act x p s) b → Gives n (Acts p ∷ es) s (a ++ b)
unfolding play happen told said_at
acts n es s p x a b e i z = (
  subst (λ (y : Line). Shows n (play es (act y p s))) (sym e) z.0,
  subst (λ (y : Line). said y p s ++ told es (act y p s) ≡ a ++ b) (sym e) (ap₂ ◌++◌ i z.1),
)

pub so : (n : Queue) (es : List Event) (b : Bool) (u v : Listing) (a : List Printed) → b ≡ true
    → Gives n es u a → Gives n es (cond b u v) a
so n es b u v a e z = subst (λ (c : Bool). Gives n es (cond c u v) a) (sym e) z

pub not_so : (n : Queue) (es : List Event) (b : Bool) (u v : Listing) (a : List Printed) → b ≡ false
    → Gives n es v a → Gives n es (cond b u v) a
not_so n es b u v a e z = subst (λ (c : Bool). Gives n es (cond c u v) a) (sym e) z

-- At park(), by the request.
pub parks : (n : Queue) (es : List Event) (s : Listing) (q t : ℕ) (g : Request) (a : List Printed)
    → s.requests q ≡ g → Gives n es (park g q t s) a → Gives n es (act (Suspend10 t) q s) a
unfolding act
parks n es s q t g a e z = subst (λ (h : Request). Gives n es (park h q t s) a) (sym e) z

pub parking : (s : Listing) (q t : ℕ) (g : Request) → s.requests q ≡ g
    → said (Suspend10 t) q s ≡ said_at_park g s
unfolding said
parking s q t g e = ap (λ (h : Request). said_at_park h s) e

-- A thread is cancelled.
pub cancels : (n : Queue) (s : Listing) (p : ℕ) → Shows n (request p (aborted (s.requests p)) s)
    → Gives n (Cancels p ∷ []) s (say 0x20)
unfolding play happen told said_at
cancels n s p z = (z, refl)

-- What the listings' actions owe to a move, before the tidying.
abbrev pub Owes : Op → ℕ → Queue → Listing → Answer → Type 0
Owes o p n s y = Gives n (actions o p s.resume_idx (printed y)) s (words s.resume_idx (printed y))

abbrev pub Fine : Op → ℕ → Queue → Listing → Phase → Move → Type 0
Fine o p m s f (Refuse r) = Unit {0}
Fine o p m s f (Tell y) = Owes o p m s y
Fine o p m s f (Act c) = Owes o p (acted m p c) s c.answer
Fine o p m s f (Put a c) = Owes o p (acted (placed m f a) p c) s c.answer
Fine o p m s f (Wake q x a c) = Owes o p (acted (placed (woken m q x) f a) p c) s c.answer
