-- The steps of one party, answer by answer, until it is at rest: what an operation is then.
use Prim.Native.Nat.{ℕ, zero, suc, ◌≤◌}
use mathlib.Core.Path.{◌≡◌, refl, sym, ap, subst, ◌∙◌}
use mathlib.Core.Bool.{true, false, cond}
use mathlib.Core.List.{List, [], ◌∷◌}
use native.Mathlib.Omega.{arith}
use borrow.Author.Tests.{eq-eqb}
use lib.Dec.{eqb, ltb}
use lib.ListN.{length}
use Rattle.hub.specs.declared.answers.Answer.{Answer}
use Rattle.hub.specs.declared.moves.Call.{Call}
use Rattle.hub.specs.declared.record.Hub.{Hub}
use Rattle.hub.specs.declared.record.Outcome.{Outcome}
use Rattle.hub.specs.Answers.{Printed, printed}
use Rattle.hub.specs.Calls.{called}
use Rattle.hub.specs.Calm.{rests, step_by}
use Rattle.hub.specs.Schedule.{entries, run}
use Rattle.hub.proofs.Laws.Bools.{if-false, if-true}
use Rattle.operations.specs.declared.Operated.{Operated}
use Rattle.operations.specs.Operation.{MOST_STEPS, operated, steps_from, steps_of, turns_down, woken_in}

-- Party p steps from one record to another, with these answers.
pub data Walk : ℕ → Hub → List Answer → Hub → Type 0 where
  stop : {p : ℕ} {h : Hub} → rests h p ≡ true → Walk p h [] h
  walk : {p : ℕ} {h h₁ h₂ : Hub} {y : Answer} {ys : List Answer} → rests h p ≡ false
      → called h (step_by p) ≡ record { answer = y; hub = h₁ } → Walk p h₁ ys h₂
      → Walk p h (y ∷ ys) h₂

-- Whom these answers show as woken.
abbrev pub woken_by : List Answer → ℕ
woken_by [] = 0xFF
woken_by (y ∷ ys) = cond (eqb (printed y).woken 0xFF) (woken_by ys) (printed y).woken

-- What a list of calls comes to.
record Steps (h : Hub) (ys : List Answer) (h' : Hub) (cs : List Call) : Type 0 where
  left : run h cs ≡ h'
  many : length cs ≡ length ys
  woken : woken_in (entries h cs) ≡ woken_by ys

none : (h : Hub) → Steps h [] h []
unfolding run entries woken_in
none h = record { left = refl; many = refl; woken = refl }

one-step : (n p : ℕ) (h h₁ h₂ : Hub) (y : Answer) (ys : List Answer)
    → called h (step_by p) ≡ record { answer = y; hub = h₁ } → Steps h₁ ys h₂ (steps_of n h₁ p)
    → Steps h (y ∷ ys) h₂ (step_by p ∷ steps_of n (called h (step_by p)).hub p)
unfolding run entries woken_in
one-step n p h h₁ h₂ y ys e s =
    record {
      left = ap (λ (o : Outcome). run o.hub (steps_of n o.hub p)) e ∙ s.left;
      many = ap (λ (o : Outcome). suc (length (steps_of n o.hub p))) e ∙ ap suc s.many;
      woken =
          ap (λ (o : Outcome). then o.answer (woken_in (entries o.hub (steps_of n o.hub p)))) e
          ∙ ap (then y) s.woken;
    }
  where
    then : Answer → ℕ → ℕ
    then a k = cond (eqb (printed a).woken 0xFF) k (printed a).woken

-- The steps of the definition are these.
walk_steps : (n : ℕ) {p : ℕ} {h h' : Hub} {ys : List Answer} → Walk p h ys h' → length ys ≤ n
    → Steps h ys h' (steps_of n h p)
unfolding steps_of
walk_steps zero (stop e) i = none _
walk_steps (suc n) {p} {h} (stop e) i = subst (Steps h [] h) (sym (if-true (rests h p) [] _ e)) (none h)
walk_steps zero (walk b e w) i = let z : ⊥ = omega arith in absurd z
walk_steps (suc n) {p} {h} {h'} (walk {y = y} {ys = ys} b e w) i =
    subst (Steps h (y ∷ ys) h') (sym (if-false (rests h p) [] _ b))
    (one-step n p h _ h' y ys e (walk_steps n w (omega arith)))

-- What an operation is, from its call.
module _ (h : Hub) (c : Call) (y : Answer) (h₁ : Hub) (e : called h c ≡ record { answer = y; hub = h₁ })
    (q : (printed y).woken ≡ 0xFF) where
  from : Outcome → Operated
  from o =
      let cs = steps_from o c.party in
      record {
        answer = o.answer;
        woken =
            cond (eqb (printed o.answer).woken 0xFF) (woken_in (entries o.hub cs))
            (printed o.answer).woken;
        steps = length cs;
        hub = run o.hub cs;
      }

  operated-from : {h₂ : Hub} {ys : List Answer}
      → Steps h₁ ys h₂ (steps_from (record { answer = y; hub = h₁ }) c.party)
      → operated h c ≡ record { answer = y; woken = woken_by ys; steps = length ys; hub = h₂ }
  unfolding operated run entries woken_in from
  operated-from s =
      ap from e
      ∙ (λ j.
      record {
        answer = y;
        woken =
            (if-true (eqb (printed y).woken 0xFF) _ (printed y).woken (eq-eqb (printed y).woken 0xFF q)
            ∙ s.woken) j;
        steps = s.many j;
        hub = s.left j;
      })

-- Its call is accepted, and then the walk;
pub operated-by : (h : Hub) (c : Call) (y : Answer) {h₁ h₂ : Hub} {ys : List Answer}
    → called h c ≡ record { answer = y; hub = h₁ } → printed y ≡ printed Answer.Accepted
    → Walk c.party h₁ ys h₂ → length ys ≤ MOST_STEPS
    → operated h c ≡ record { answer = y; woken = woken_by ys; steps = length ys; hub = h₂ }
operated-by h c y {h₁} {h₂} {ys} e q w i =
    operated-from h c y h₁ e (ap (λ (r : Printed). r.woken) q)
    (subst (Steps h₁ ys h₂)
    (sym (if-false (turns_down y) [] _ (ap (λ (r : Printed). ltb r.code 0x20) q)))
    (walk_steps MOST_STEPS w i))

-- or it is refused, and that is all.
pub operated-alone : (h : Hub) (c : Call) (y : Answer) {h₁ : Hub}
    → called h c ≡ record { answer = y; hub = h₁ } → (printed y).woken ≡ 0xFF → turns_down y ≡ true
    → operated h c ≡ record { answer = y; woken = 0xFF; steps = 0; hub = h₁ }
operated-alone h c y {h₁} e q t =
    operated-from h c y h₁ e q (subst (Steps h₁ [] h₁) (sym (if-true (turns_down y) [] _ t)) (none h₁))
