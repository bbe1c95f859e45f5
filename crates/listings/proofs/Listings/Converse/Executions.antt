-- Every execution of the listings is one of the queue.
use Prim.Native.Nat.{ℕ, zero, suc, ◌<◌}
use mathlib.Core.Path.{◌≡◌, refl, sym, ap, ap₂, subst, ◌∙◌}
use mathlib.Core.Bool.{Bool, true, false, cond}
use mathlib.Core.List.{List, [], ◌∷◌, ◌++◌, map}
use native.Mathlib.Omega.{arith}
use lib.Dec.{eqb, leb}
use lib.ListN.{replicate}
use Rattle.hub.specs.declared.moves.Call.{Call}
use Rattle.hub.specs.declared.opening.Opening.{Opening}
use Rattle.hub.specs.declared.record.Phase.{Phase}
use Rattle.hub.specs.declared.record.Phase.TheVariants.{Free}
use Rattle.hub.specs.Answers.{Printed, printed}
use Rattle.hub.specs.Calls.{answer_of}
use Rattle.hub.specs.Kinds.{kind_in}
use Rattle.hub.specs.Ledger.{Ledger, opened}
use Rattle.listings.specs.Listings.Converse.{AllAllowed, Allowed, Follows, QueueFollows, Within, calls, calls_at, decided, park_fits}
use Rattle.listings.specs.Listings.Converse.{phase_of}
use Rattle.listings.specs.Listings.Machine.{Event, Listing, Request, happen, idle, play}
use Rattle.listings.specs.Listings.Machine.{Acts, Cancels}
use Rattle.listings.specs.Listings.Words.{said_at}
use Rattle.hub.specs.Look.{seen_by}
use Rattle.hub.specs.Moves.{Move}
use Rattle.hub.specs.Moves.{Refuse, Tell, Act, Put, Wake}
use Rattle.hub.specs.Phases.{is_one_of, is_place_of}
use Rattle.hub.specs.Queue.{Queue, acted, answers, apply, can_skip, fresh, look, move_of, next, placed, run, skip, skipped, woken}
use Rattle.hub.specs.Record.{MAX_BEGUN, PARTIES, free_slot, read_slot}
use Rattle.hub.specs.Table.{can_cancel}
use Rattle.hub.proofs.Laws.Slots.{read-phase}
use Rattle.hub.proofs.Invariant.Keep.{Inv}
use Rattle.hub.proofs.Invariant.Schedules.{Agrees, entered, fresh-agrees, fresh-inv, next-good}
use Rattle.hub.proofs.Demand3.{in-range}
use Rattle.listings.proofs.Listings.Schedules.{all-free}
use Rattle.listings.proofs.Listings.Converse.Answered.{Answered}
use Rattle.listings.proofs.Listings.Converse.Events.{cancelled, goes}

-- The opening stays.
skip-opening : (n : ℕ) (m : Queue) → (skip n m).opening ≡ m.opening
unfolding skip
skip-opening zero m = refl
skip-opening (suc n) m = go (can_skip m) (skip-opening n (skipped m))
  where
    go : (b : Bool) → (skip n (skipped m)).opening ≡ m.opening → (cond b (skip n (skipped m)) m).opening ≡ m.opening
    go true e = e
    go false e = refl

applied-opening : (m : Queue) (p : ℕ) (v : Move) → (apply m (look m p) v).opening ≡ m.opening
unfolding apply seen_by
applied-opening m p (Refuse r) = refl
applied-opening m p (Tell y) = refl
applied-opening m p (Act x) = skip-opening (acted m p x).figures.issued (acted m p x)
applied-opening m p (Put b x) =
    let n = acted (placed m (look m p).slot.phase b) p x in
    skip-opening n.figures.issued n
applied-opening m p (Wake q u b x) =
    let n = acted (placed (woken m q u) (look m p).slot.phase b) p x in
    skip-opening n.figures.issued n

-- What is kept along an execution.
record Along (k : ℕ) (o : Opening) (m : Queue) : Type 0 where
  opening : m.opening ≡ o
  inv : Inv k m
  ledger : Ledger
  agrees : Agrees ledger m

along-run : (k : ℕ) (o : Opening) (cs : List Call) (m : Queue) → Along k o m → Along k o (run m cs)
unfolding run
along-run k o [] m a = a
along-run k o (c ∷ cs) m a =
    let g = next-good k m a.inv c a.ledger a.agrees in
    along-run k o cs (next m c)
    (record {
      opening = applied-opening m c.party (move_of m c) ∙ a.opening;
      inv = g.0;
      ledger = entered a.ledger c (answer_of (move_of m c));
      agrees = g.1;
    })

-- Calls after calls.
run-append : (a b : List Call) (m : Queue) → run m (a ++ b) ≡ run (run m a) b
unfolding run
run-append [] b m = refl
run-append (c ∷ a) b m = run-append a b (next m c)

answers-append : (a b : List Call) (m : Queue)
    → map printed (answers m (a ++ b)) ≡ map printed (answers m a) ++ map printed (answers (run m a) b)
unfolding run answers
answers-append [] b m = refl
answers-append (c ∷ a) b m =
    ap (λ (l : List Printed). printed (answer_of (move_of m c)) ∷ l) (answers-append a b (next m c))

one-event : (k : ℕ) (o : Opening) (m : Queue) (s : Listing) (e : Event) → o.named ≡ false → Along k o m → Follows m s
    → Allowed o e → leb MAX_BEGUN m.figures.begun ≡ false → Answered m (calls_at e m s) (happen e s) (said_at e s)
unfolding calls_at happen said_at
one-event k o m s (Acts p) n a w x b =
    goes k m a.inv s w p (subst (λ (v : Opening). p < v.parties) (sym a.opening) x)
    (ap (λ (v : Opening). v.named) a.opening ∙ n) (s.lines p) refl b
one-event k o m s (Cancels p) n a w x b =
    cancelled k m a.inv s w p (subst (λ (v : Opening). p < v.parties) (sym a.opening) x.0)
    (subst (λ (v : Opening). eqb (kind_in v.kinds p) 3 ≡ false) (sym a.opening) x.1) (can_cancel (phase_of m p)) refl

follows-from : (k : ℕ) (o : Opening) → o.named ≡ false → (es : List Event) → AllAllowed o es → (m : Queue) (s : Listing)
    → Along k o m → Follows m s → Within m s es
    → Follows (run m (calls m s es)) (play es s) × (map printed (answers m (calls m s es)) ≡ decided m s es)
unfolding calls decided play Within
follows-from k o n [] x m s a w b = unfold run answers in (w, refl)
follows-from k o n (e ∷ es) x m s a w b =
    let cs = calls_at e m s in
    let g = one-event k o m s e n a w x.0 b.0 in
    let i = follows-from k o n es x.1 (run m cs) (happen e s) (along-run k o cs m a) g.0 b.1 in
    let rest = calls (run m cs) (happen e s) es in (
      subst (λ (q : Queue). Follows q (play es (happen e s))) (sym (run-append cs rest m)) i.0,
      answers-append cs rest m ∙ ap₂ ◌++◌ g.1 i.1,
    )

fresh-follows : (o : Opening) → Follows (fresh o) (idle o.permits)
unfolding fresh idle is_place_of is_one_of
fresh-follows o =
    record {
      counter = refl;
      issued = refl;
      behind = omega arith;
      passed = λ t i j. (let z : ⊥ = omega (arith, j) in absurd z);
      cells = λ t d. refl;
      at = λ p. free p;
      parks = λ p. subst (λ (f : Phase). park_fits f Request.Fresh ≡ true) (sym (free p)) refl;
    }
  where
    free : (p : ℕ) → (read_slot (replicate PARTIES free_slot) p).phase ≡ Free
    free p = read-phase (replicate PARTIES free_slot) p ∙ all-free PARTIES p

pub queue-follows : QueueFollows
unfolding QueueFollows
queue-follows o e n es x b =
    let r = in-range o e in
    follows-from o.permits o n es x (fresh o) (idle o.permits)
    (record {
      opening = unfold fresh in refl;
      inv = fresh-inv o r.parties.0 r.parties.1;
      ledger = opened o;
      agrees = fresh-agrees o;
    })
    (fresh-follows o) b
