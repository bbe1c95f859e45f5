-- Every schedule of the hub is an execution of document 000's listings.
use Prim.Native.Nat.{ℕ, zero, suc, ◌<◌}
use mathlib.Core.Path.{◌≡◌, refl, sym, ap, ap₂, subst, ◌∙◌}
use mathlib.Core.Bool.{Bool, true, false, cond}
use mathlib.Core.List.{List, [], ◌∷◌, ◌++◌, append_assoc}
use native.Mathlib.Omega.{arith}
use borrow.Author.Tests.{eqb-true}
use lib.ListN.{replicate}
use Rattle.hub.specs.declared.answers.Answer.{Answer}
use Rattle.hub.specs.declared.moves.Call.{Call}
use Rattle.hub.specs.declared.opening.Opening.{Opening}
use Rattle.hub.specs.declared.record.Figures.{Figures}
use Rattle.hub.specs.declared.record.Hub.{Hub}
use Rattle.hub.specs.declared.record.PartySlot.{PartySlot}
use Rattle.hub.specs.declared.record.Phase.{Phase}
use Rattle.hub.specs.declared.record.Place.{Place}
use Rattle.hub.specs.declared.record.PlaceSlot.{PlaceSlot}
use Rattle.hub.specs.Answers.{Printed, printed}
use Rattle.hub.specs.Calls.{answer_of, called}
use Rattle.hub.specs.Ledger.{Ledger, opened, phase_in}
use Rattle.listings.specs.Listings.Machine.{Event, Listing, Request, happen, idle, play}
use Rattle.listings.specs.Listings.Execution.{actions, execution, transcript, words}
use Rattle.listings.specs.Listings.Shown.{HubExecutes, ShowsListing, is_cell_of, line_of, request_fits}
use Rattle.listings.specs.Listings.Words.{said_at, told}
use Rattle.hub.specs.Opening.{opening}
use Rattle.hub.specs.Phases.{is_one_of}
use Rattle.hub.specs.Queue.{Queue, fresh, move_of, next}
use Rattle.hub.specs.Queue as queue
use Rattle.hub.specs.Record.{PARTIES, free_slot, phases_of, read_slot}
use Rattle.hub.specs.Refinement as refinement
use Rattle.hub.specs.Refinement.{Refines, heard, is_seven, without_sevens}
use Rattle.hub.specs.Schedule.{Entry, answers, entries, run}
use Rattle.hub.proofs.Laws.Slots.{read-phase}
use Rattle.hub.proofs.Invariant.Keep.{Inv}
use Rattle.hub.proofs.Invariant.Schedules.{Agrees, entered, fresh-agrees, fresh-inv, next-good}
use Rattle.hub.proofs.Demand3.{in-range, refines}
use Rattle.listings.proofs.Listings.Kept.{Shows}
use Rattle.listings.proofs.Listings.Played.{Gives, ends}
use Rattle.listings.proofs.Listings.Calls.{next-shows, no-action, no_word}

-- Events after events.
play-append : (a b : List Event) (s : Listing) → play (a ++ b) s ≡ play b (play a s)
unfolding play
play-append [] b s = refl
play-append (e ∷ a) b s = play-append a b (happen e s)

told-append : (a b : List Event) (s : Listing) → told (a ++ b) s ≡ told a s ++ told b (play a s)
unfolding play told
told-append [] b s = refl
told-append (e ∷ a) b s =
    ap (λ (l : List Printed). said_at e s ++ l) (told-append a b (happen e s))
    ∙ sym (append_assoc (said_at e s) (told a (happen e s)) (told b (play a (happen e s))))

-- Calls and their answers, as a bystander sees them.
abbrev entry : Call → Answer → Entry
entry c y = record { call = c; answer = printed y }

seen : List Call → List Answer → List Entry
seen [] ys = []
seen (c ∷ cs) [] = []
seen (c ∷ cs) (y ∷ ys) = entry c y ∷ seen cs ys

-- A schedule of the queue.
executes-from : (k : ℕ) (cs : List Call) (m : Queue) (e : Ledger) (s : Listing) → Inv k m → Agrees e m → Shows m s
    → Gives (queue.run m cs) (execution (seen cs (queue.answers m cs)) s) s (transcript (seen cs (queue.answers m cs)) s)
unfolding queue.run queue.answers seen execution transcript
executes-from k [] m e s inv a w = ends m s w
executes-from k (c ∷ cs) m e s inv a w =
    let y = answer_of (move_of m c) in
    let es = actions c.op c.party s.resume_idx (printed y) in
    let rest = execution (seen cs (queue.answers (next m c) cs)) (play es s) in
    let g = next-good k m inv c e a in
    let n = next-shows k m inv s w c in
    let i = executes-from k cs (next m c) (entered e c y) (play es s) g.0 g.1 n.0 in (
      subst (Shows (queue.run (next m c) cs)) (sym (play-append es rest s)) i.0,
      told-append es rest s ∙ ap₂ ◌++◌ n.1 i.1,
    )

pub all-free : (n i : ℕ) → phase_in (phases_of (replicate n free_slot)) i ≡ Phase.Free
all-free zero i = refl
all-free (suc n) zero = refl
all-free (suc n) (suc i) = all-free n i

fresh-shows : (o : Opening) → Shows (fresh o) (idle o.permits)
unfolding fresh idle request_fits is_one_of
fresh-shows o =
    record {
      counter = refl;
      issued = refl;
      behind = omega arith;
      passed = λ t i j. (let z : ⊥ = omega (arith, j) in absurd z);
      cells = λ t. refl;
      lines = λ p. ap line_of (sym (free p));
      requests = λ p. subst (λ (f : Phase). request_fits f Request.Fresh ≡ true) (sym (free p)) refl;
    }
  where
    free : (p : ℕ) → (read_slot (replicate PARTIES free_slot) p).phase ≡ Phase.Free
    free p = read-phase (replicate PARTIES free_slot) p ∙ all-free PARTIES p

-- A call that the hub answers by 7 stands for no action and says nothing.
module _ (c : Call) (y : Answer) (xs : List Entry) (s : Listing) (i : is_seven y ≡ true) where
  small : (printed y).code < 0x20
  small = omega (arith, eqb-true (printed y).code 7 i)

  seven-executes : execution (entry c y ∷ xs) s ≡ execution xs s
  unfolding execution play
  seven-executes = rw (no-action c.op c.party s.resume_idx (printed y) small)

  seven-says : transcript (entry c y ∷ xs) s ≡ transcript xs s
  unfolding transcript play
  seven-says =
      rw (no-action c.op c.party s.resume_idx (printed y) small, no_word s.resume_idx (printed y) small)

-- So what the hub answers comes to the same without the sevens.
abbrev Same : List Entry → List Entry → Listing → Type 0
Same xs ys s = (execution xs s ≡ execution ys s) × (transcript xs s ≡ transcript ys s)

same_after : (x : Entry) (xs ys : List Entry) (s : Listing)
    → Same xs ys (play (actions x.call.op x.call.party s.resume_idx x.answer) s) → Same (x ∷ xs) (x ∷ ys) s
unfolding execution transcript
same_after x xs ys s z =
    let es = actions x.call.op x.call.party s.resume_idx x.answer in
    (ap (λ l. es ++ l) z.0, ap (λ l. words s.resume_idx x.answer ++ l) z.1)

without-one : (c : Call) (y : Answer) (xs : List Entry) (cs : List Call) (ys : List Answer) (s : Listing) (b : Bool)
    → is_seven y ≡ b → ((u : Listing) → Same xs (seen cs ys) u)
    → Same (entry c y ∷ xs) (seen (cond b cs (c ∷ cs)) (cond b ys (y ∷ ys))) s
unfolding seen
without-one c y xs cs ys s true i z = (
  seven-executes c y xs s i ∙ (z s).0,
  seven-says c y xs s i ∙ (z s).1,
)
without-one c y xs cs ys s false i z = same_after (entry c y) xs (seen cs ys) s (z _)

without : (cs : List Call) (h : Hub) (s : Listing)
    → Same (entries h cs) (seen (heard h cs) (without_sevens (answers h cs))) s
unfolding entries heard answers without_sevens
without [] h s = unfold seen in (refl, refl)
without (c ∷ cs) h s =
    let h' = (called h c).hub in
    without-one c (called h c).answer (entries h' cs) (heard h' cs) (without_sevens (answers h' cs)) s _ refl
    (λ u. without cs h' u)

-- The hub's record is a window of the queue.
hub-shows : (h : Hub) (m : Queue) (s : Listing) → refinement.Shows h m → Shows m s → ShowsListing h s
hub-shows h m s r w =
    record {
      state = w.counter ∙ ap (λ (f : Figures). f.counter) (sym r.figures);
      suspend_idx = w.issued ∙ ap (λ (f : Figures). f.issued) (sym r.figures);
      resume_idx = omega (arith, w.behind, ap (λ (f : Figures). f.resumed) r.figures);
      passed = λ t i j. w.passed t i (omega (arith, j, ap (λ (f : Figures). f.resumed) r.figures));
      before = λ t i. subst (λ (a : Place). is_cell_of a (s.cells t) ≡ true) (r.window.before t i) (w.cells t);
      within = λ t i j.
          subst (λ (a : PlaceSlot). is_cell_of a.place (s.cells t) ≡ true) (r.window.within t i j) (w.cells t);
      beyond = λ t i.
          subst (λ (a : PlaceSlot). is_cell_of a.place (s.cells t) ≡ true) (r.window.beyond t i) (w.cells t);
      lines = λ p. w.lines p ∙ ap (λ (l : List PartySlot). line_of (read_slot l p).phase) (sym r.slots);
      requests = λ p.
          subst (λ (l : List PartySlot). request_fits (read_slot l p).phase (s.requests p) ≡ true) (sym r.slots)
          (w.requests p);
    }

pub hub-executes : HubExecutes
unfolding HubExecutes Refines
hub-executes o e cs =
    let h = (opening o).hub in
    let m = fresh o in
    let s = idle o.permits in
    let hs = heard h cs in
    let n = in-range o e in
    let r = refines o e cs in
    let g = executes-from o.permits hs m (opened o) s (fresh-inv o n.parties.0 n.parties.1) (fresh-agrees o)
    (fresh-shows o) in
    let z : Same (entries h cs) (seen hs (queue.answers m hs)) s =
    subst (λ ys. Same (entries h cs) (seen hs ys) s) r.1 (without cs h s) in (
      subst (λ es. ShowsListing (run h cs) (play es s)) (sym z.0) (hub-shows _ _ _ r.0 g.0),
      ap (λ es. told es s) z.0 ∙ g.1 ∙ sym z.1,
    )
