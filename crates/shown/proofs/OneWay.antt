-- Nobody but the party that called is busy: the ledger moves no other party, but for one that is woken, which
-- holds.
use Prim.Native.Nat.{ℕ, zero, suc, ◌<◌}
use mathlib.Core.Path.{◌≡◌, refl, sym, ap, ap₂, subst, ◌∙◌}
use mathlib.Core.Bool.{Bool, true, false, cond}
use mathlib.Core.List.{List, [], ◌∷◌, ◌++◌, map}
use mathlib.Core.Logic.{◌≢◌}
use native.Mathlib.Decide.{ℕ_discrete, dec_le}
use native.Mathlib.Omega.{arith}
use lib.Dec.{eqb, ltb}
use lib.ListN.{length, set}
use lib.Seq.{get_or-set_same, get_or-set_other, set_out}
use Rattle.hub.specs.declared.answers.Answer.{Answer}
use Rattle.hub.specs.declared.moves.Call.{Call}
use Rattle.hub.specs.declared.moves.Op.{Op}
use Rattle.hub.specs.declared.opening.Opening.{Opening}
use Rattle.hub.specs.declared.record.Hub.{Hub}
use Rattle.hub.specs.declared.record.Phase.{Phase}
use Rattle.hub.specs.Answers.{Printed, printed}
use Rattle.hub.specs.Calls.{called}
use Rattle.hub.specs.Calm.{BusySteps, rests, step_by, stepped}
use Rattle.hub.specs.Demand3.{Demand3}
use Rattle.hub.specs.Ledger.{Ledger, enter, ledger, opened, phase_after, phase_in, phases_after, succeeded}
use Rattle.hub.specs.Opening.{opening}
use Rattle.hub.specs.Phases.{at_rest, is_one_of}
use Rattle.hub.specs.Schedule.{entries, run}
use Rattle.hub.proofs.Demand3.{demand3}
use Rattle.hub.proofs.Laws.Bools.{if-false, if-true}
use Rattle.hub.proofs.Laws.Slots.{read-phase}
use Rattle.operations.specs.AtRest.{EndsAtRest}
use Rattle.operations.specs.Operation.{MOST_STEPS, operated, steps_of, turns_down}
use Rattle.operations.proofs.Operations.{ends-at-rest}
use Rattle.operations.proofs.Reached.{run_more}
use Rattle.screen.proofs.Laws.Lists.{never}
use Rattle.shown.specs.OneWay.{OneWay}

-- An answer leaves those at rest that are, all but the party that it is given to.
module _ (p q : ℕ) (d : q ≢ p) where
  woken-rests : (l : List Phase) (w : ℕ) (b : Bool) → at_rest (phase_in l q) ≡ true
      → at_rest (phase_in (cond b (set l w Phase.Holding) l) q) ≡ true
  unfolding is_one_of
  woken-rests l w false e = e
  woken-rests l w true e = go (ℕ_discrete q w) (dec_le (suc w) (length l))
    where
      go : Dec (q ≡ w) → Dec (w < length l) → at_rest (phase_in (set l w Phase.Holding) q) ≡ true
      go (yes z) (yes i) =
          ap (λ (n : ℕ). at_rest (phase_in (set l w Phase.Holding) n)) z
          ∙ ap at_rest (get_or-set_same l w Phase.Holding Phase.Free i)
      go (yes z) (no i) =
          ap (λ (m : List Phase). at_rest (phase_in m q)) (set_out l w Phase.Holding (omega arith)) ∙ e
      go (no z) i = ap at_rest (get_or-set_other l w q Phase.Holding Phase.Free z) ∙ e

  after-rests : (named : Bool) (o : Op) (r : Printed) (l : List Phase) → at_rest (phase_in l q) ≡ true
      → at_rest (phase_in (phases_after named o p r l) q) ≡ true
  unfolding phases_after
  after-rests named o r l e =
      let w = cond (eqb r.code 0x2A) (set l r.woken Phase.Holding) l in
      ap at_rest (get_or-set_other w p q (phase_after named o (phase_in l p) r) Phase.Free d)
      ∙ woken-rests l r.woken (eqb r.code 0x2A) e

  enter-rests : (e : Ledger) (c : Call) (r : Printed) → c.party ≡ p → at_rest (phase_in e.phases q) ≡ true
      → at_rest (phase_in (enter e (record { call = c; answer = r })).phases q) ≡ true
  unfolding enter
  enter-rests e c r z i = go (ltb r.code 0x20)
    where
      go : (b : Bool)
          → at_rest (phase_in (cond b e (succeeded c.op c.party r e)).phases q) ≡ true
      go true = i
      go false =
          subst (λ (n : ℕ). at_rest (phase_in (phases_after e.named c.op n r e.phases) q) ≡ true) (sym z)
          (after-rests e.named c.op r e.phases i)

-- One entry more.
ledger-more : (e : Ledger) (h : Hub) (cs : List Call) (c : Call)
    → ledger e (entries h (cs ++ c ∷ []))
    ≡ enter (ledger e (entries h cs)) (record { call = c; answer = printed (called (run h cs) c).answer })
unfolding ledger entries run
ledger-more e h [] c = refl
ledger-more e h (x ∷ cs) c =
    ledger-more (enter e (record { call = x; answer = printed (called h x).answer })) (called h x).hub cs c

module _ (o : Opening) (e : (opening o).answer ≡ Answer.Opened) where
  abbrev ReachedBy : Hub → Type 0
  ReachedBy h = (cs : List Call) × (run (opening o).hub cs ≡ h)

  -- What the ledger says of rest, the record shows.
  ledger-rests : (cs : List Call) (q : ℕ)
      → at_rest (phase_in (ledger (opened o) (entries (opening o).hub cs)).phases q)
      ≡ rests (run (opening o).hub cs) q
  unfolding Demand3
  ledger-rests cs q =
      ap (λ (l : List Phase). at_rest (phase_in l q)) (sym (demand3 o e cs).phases)
      ∙ ap at_rest (sym (read-phase (run (opening o).hub cs).slots q))

  call-reaches : (h : Hub) (c : Call) → ReachedBy h → ReachedBy (called h c).hub
  unfolding run
  call-reaches h c r =
      (r.0 ++ c ∷ [], sym (run_more (opening o).hub r.0 (c ∷ [])) ∙ ap (λ (g : Hub). (called g c).hub) r.1)

  -- A call makes nobody else busy.
  others-rest : (h : Hub) (c : Call) → ReachedBy h → (q : ℕ) → q ≢ c.party → rests h q ≡ true
      → rests (called h c).hub q ≡ true
  unfolding call-reaches
  others-rest h c r q d i =
      ap (λ (g : Hub). rests g q) (sym (call-reaches h c r).1)
      ∙ sym (ledger-rests (r.0 ++ c ∷ []) q)
      ∙ ap (λ (a : Ledger). at_rest (phase_in a.phases q)) (ledger-more (opened o) (opening o).hub r.0 c)
      ∙ enter-rests c.party q d _ c _ refl
      (ledger-rests r.0 q ∙ ap (λ (g : Hub). rests g q) r.1 ∙ i)

  -- Where all others rest, whoever is busy is p.
  busy-is : (g : Hub) (p q : ℕ) → ((q : ℕ) → q ≢ p → rests g q ≡ true) → rests g q ≡ false → q ≡ p
  busy-is g p q others b = go (ℕ_discrete q p)
    where
      go : Dec (q ≡ p) → q ≡ p
      go (yes i) = i
      go (no d) = absurd (never (sym (others q d) ∙ b))

  -- So busy parties take p's steps.
  walk : (n : ℕ) (g : Hub) (p : ℕ) → ReachedBy g → ((q : ℕ) → q ≢ p → rests g q ≡ true)
      → rests (run g (steps_of n g p)) p ≡ true → (ps : List ℕ) → BusySteps g ps
      → ((q : ℕ) → rests (stepped g ps) q ≡ true) → map step_by ps ≡ steps_of n g p
  unfolding steps_of run BusySteps stepped
  walk zero g p r others end [] b z = refl
  walk (suc n) g p r others end [] b z = sym (if-true (rests g p) [] _ (z p))
  walk zero g p r others end (q ∷ qs) b z =
      absurd (never (sym end ∙ ap (rests g) (sym (busy-is g p q others b.0)) ∙ b.0))
  walk (suc n) g p r others end (q ∷ qs) b z =
      ap₂ ◌∷◌ (ap step_by same)
      (walk n next p (call-reaches g (step_by p) r) (λ u d. others-rest g (step_by p) r u d (others u d))
      (sym (ap (λ (c : Bool). rests (run g (cond c [] (step_by p ∷ steps_of n next p))) p) busy) ∙ end)
      qs (subst (λ (u : ℕ). BusySteps (called g (step_by u)).hub qs) same b.1)
      (subst (λ (u : ℕ). (v : ℕ) → rests (stepped (called g (step_by u)).hub qs) v ≡ true) same z))
      ∙ sym (if-false (rests g p) [] _ busy)
    where
      next : Hub
      next = (called g (step_by p)).hub

      same : q ≡ p
      same = busy-is g p q others b.0

      busy : rests g p ≡ false
      busy = ap (rests g) (sym same) ∙ b.0

-- Where everybody is at rest nobody steps.
nobody-steps : (g : Hub) → ((q : ℕ) → rests g q ≡ true) → (ps : List ℕ) → BusySteps g ps → map step_by ps ≡ []
unfolding BusySteps
nobody-steps g z [] b = refl
nobody-steps g z (q ∷ qs) b = absurd (never (sym (z q) ∙ b.0))

pub one_way : OneWay
unfolding OneWay EndsAtRest operated run
one_way o e cs calm c i ps t = go (turns_down (called h c).answer) (ends-at-rest o e cs calm c i)
  where
    h : Hub
    h = run (opening o).hub cs

    steps : List Call
    steps = steps_of MOST_STEPS (called h c).hub c.party

    go : (b : Bool) → ((q : ℕ) → rests (run (called h c).hub (cond b [] steps)) q ≡ true)
        → map step_by ps ≡ cond b [] steps
    go true end = nobody-steps _ end ps t.0
    go false end =
        walk o e MOST_STEPS _ c.party (call-reaches o e _ c (cs, refl))
        (λ q d. others-rest o e _ c (cs, refl) q d (calm q)) (end c.party) ps t.0 t.1
