-- The steps of an operation, one after the other.
use Prim.Native.Nat.{ℕ, zero, suc, ◌+◌, ◌-◌, ◌≤◌, ◌<◌}
use mathlib.Core.Path.{◌≡◌, refl, sym, ap, ◌∙◌}
use mathlib.Core.Bool.{Bool, true, false, cond}
use mathlib.Core.List.{List, [], ◌∷◌}
use native.Mathlib.Omega.{arith}
use borrow.Author.Tests.{eqb-true}
use lib.Dec.{eqb}
use lib.ListN.{length}
use Rattle.hub.specs.declared.moves.Call.{Call}
use Rattle.hub.specs.declared.record.Hub.{Hub}
use Rattle.hub.specs.declared.record.Outcome.{Outcome}
use Rattle.hub.specs.declared.record.PartySlot.{PartySlot}
use Rattle.hub.specs.Answers.{printed}
use Rattle.hub.specs.Calls.{called}
use Rattle.hub.specs.Calm.{rests, step_by}
use Rattle.hub.specs.Phases.{at_rest, is_one_of}
use Rattle.hub.specs.Record.{PARTIES, read_slot}
use Rattle.hub.specs.Schedule.{entries, run}
use Rattle.hub.proofs.Laws.Bools.{if-false, if-true}
use Rattle.hub.proofs.Laws.Slots.{past-slots}
use Rattle.operations.specs.declared.Operated.{Operated}
use Rattle.operations.specs.Operation.{MOST_STEPS, operated, steps_from, steps_of, turns_down, woken_in}

-- A party past the slots is at rest.
pub past : (l : List PartySlot) (p : ℕ) → length l ≡ PARTIES → PARTIES ≤ p → true ≡ at_rest (read_slot l p).phase
unfolding is_one_of
past l p n i = sym (ap (λ (s : PartySlot). at_rest s.phase) (past-slots l n p i))

-- What steps come to: whom they woke, how many they are, the record that they leave.
pub record Walked : Type 0 where
  pub woken : ℕ  -- FF if nobody was
  pub steps : ℕ
  pub hub : Hub

-- The first of two that is not FF.
abbrev pub first_of : ℕ → ℕ → ℕ
first_of a b = cond (eqb a 0xFF) b a

-- Behind s steps that woke w.
abbrev pub joined : ℕ → ℕ → Walked → Walked
joined w s r = record { woken = first_of w r.woken; steps = s + r.steps; hub = r.hub }

first-first : (w v u : ℕ) → first_of w (first_of v u) ≡ first_of (first_of w v) u
first-first w v u = go (eqb w 0xFF) refl
  where
    go : (b : Bool) → eqb w 0xFF ≡ b
        → cond b (first_of v u) w ≡ cond (eqb (cond b v w) 0xFF) u (cond b v w)
    go true e = refl
    go false e = sym (if-false (eqb w 0xFF) u w e)

-- A list of calls.
abbrev pub of : Hub → List Call → Walked
of h cs = record { woken = woken_in (entries h cs); steps = length cs; hub = run h cs }

-- The steps of a party until it is at rest, at most n of them.
unfoldable pub walked : ℕ → Hub → ℕ → Walked
walked n h p = of h (steps_of n h p)

-- A step in front of others.
one_more : (h : Hub) (c : Call) (cs : List Call)
    → of h (c ∷ cs) ≡ joined (printed (called h c).answer).woken 1 (of (called h c).hub cs)
unfolding run entries woken_in
one_more h c cs =
    let e : length (c ∷ cs) ≡ 1 + length cs = omega arith in
    λ i. record {
      woken = first_of (printed (called h c).answer).woken (woken_in (entries (called h c).hub cs));
      steps = e i;
      hub = run (called h c).hub cs;
    }

walked_none : (n : ℕ) (h : Hub) (p : ℕ) → rests h p ≡ true → walked n h p ≡ of h []
unfolding walked steps_of
walked_none zero h p e = refl
walked_none (suc n) h p e = ap (of h) (if-true (rests h p) [] _ e)

walked_one : (n : ℕ) (h : Hub) (p : ℕ) → rests h p ≡ false → walked (suc n) h p
    ≡ joined (printed (called h (step_by p)).answer).woken 1 (walked n (called h (step_by p)).hub p)
unfolding walked steps_of
walked_one n h p e =
    ap (of h) (if-false (rests h p) [] _ e)
    ∙ one_more h (step_by p) (steps_of n (called h (step_by p)).hub p)

none : (w : ℕ) → first_of w 0xFF ≡ w
none w = go (eqb w 0xFF) refl
  where
    go : (b : Bool) → eqb w 0xFF ≡ b → cond b 0xFF w ≡ w
    go true e = sym (eqb-true w 0xFF e)
    go false e = refl

nothing : (w s : ℕ) (h : Hub) → joined w s (of h []) ≡ record { woken = w; steps = s; hub = h }
unfolding run entries woken_in
nothing w s h =
    let f : s + 0 ≡ s = omega arith in
    λ i. record { woken = none w i; steps = f i; hub = h }

-- After s steps of party p from h₀ on, where v was woken before and w after them, the record is h.
pub record Walking (h₀ : Hub) (p v w s : ℕ) (h : Hub) : Type 0 where
  pub few : s ≤ MOST_STEPS
  pub same : joined w s (walked (MOST_STEPS - s) h p) ≡ joined v 0 (walked MOST_STEPS h₀ p)

pub begin : (h : Hub) (p v : ℕ) → Walking h p v v 0 h
begin h p v = record { few = omega arith; same = refl }

module _ (h₀ : Hub) (p v w s : ℕ) (h : Hub) (k : Walking h₀ p v w s h) where
  pub go_on : (o : Outcome) (u : ℕ) → s < MOST_STEPS → rests h p ≡ false → o ≡ called h (step_by p)
      → u ≡ first_of w (printed o.answer).woken → Walking h₀ p v u (s + 1) o.hub
  go_on o u i e q f =
      record {
        few = omega arith;
        same =
            let n : MOST_STEPS - s ≡ suc (MOST_STEPS - (s + 1)) = omega arith in
            ap (λ (v : ℕ). joined v (s + 1) (walked (MOST_STEPS - (s + 1)) o.hub p)) f
            ∙ ap
            (λ (x : Outcome). joined (first_of w (printed x.answer).woken) (s + 1)
            (walked (MOST_STEPS - (s + 1)) x.hub p)) q
            ∙ sym
            (ap (λ (m : ℕ). joined w s (walked m h p)) n
            ∙ ap (joined w s) (walked_one (MOST_STEPS - (s + 1)) h p e)
            ∙ both (printed (called h (step_by p)).answer).woken
            (walked (MOST_STEPS - (s + 1)) (called h (step_by p)).hub p))
            ∙ k.same;
      }
    where
      both : (v : ℕ) (r : Walked) → joined w s (joined v 1 r) ≡ joined (first_of w v) (s + 1) r
      both v r =
          let f : s + (1 + r.steps) ≡ s + 1 + r.steps = omega arith in
          λ i. record { woken = first-first w v r.woken i; steps = f i; hub = r.hub }

  -- At rest, or after as many steps as there may be.
  pub at_rest_lem : rests h p ≡ true
      → record { woken = w; steps = s; hub = h } ≡ joined v 0 (walked MOST_STEPS h₀ p)
  at_rest_lem e =
      sym (nothing w s h) ∙ ap (joined w s) (sym (walked_none (MOST_STEPS - s) h p e)) ∙ k.same

  pub all_made : MOST_STEPS ≤ s → record { woken = w; steps = s; hub = h } ≡ joined v 0 (walked MOST_STEPS h₀ p)
  unfolding walked steps_of
  all_made i =
      let n : MOST_STEPS - s ≡ zero = omega arith in
      sym (nothing w s h)
      ∙ sym (ap (λ (m : ℕ). joined w s (walked m h p)) n) ∙ k.same

-- The call, and then its steps, if it is not refused.
abbrev pub from : Outcome → ℕ → Walked → Operated
from o w r = record { answer = o.answer; woken = w; steps = r.steps; hub = r.hub }

-- What steps come to that a list of calls is.
abbrev by : Outcome → List Call → Operated
by o cs =
    let y = of o.hub cs in
    from o (first_of (printed o.answer).woken y.woken) y

operated-by : (h : Hub) (c : Call) (o : Outcome) → o ≡ called h c
    → by o (steps_from o c.party) ≡ operated h c
unfolding operated run entries woken_in
operated-by h c o e = ap (λ (x : Outcome). by x (steps_from x c.party)) e

module _ (h : Hub) (c : Call) (o : Outcome) (e : o ≡ called h c) where
  pub operated-refused : (w : ℕ) → turns_down o.answer ≡ true → w ≡ (printed o.answer).woken
      → record { answer = o.answer; woken = w; steps = 0; hub = o.hub } ≡ operated h c
  unfolding run entries woken_in
  operated-refused w t g =
      ap (λ (v : ℕ). from o v (of o.hub [])) (g ∙ sym (none (printed o.answer).woken))
      ∙ ap (by o) (sym (if-true (turns_down o.answer) [] _ t))
      ∙ operated-by h c o e

  pub operated-walked : (v w s : ℕ) (left : Hub) → turns_down o.answer ≡ false → v ≡ (printed o.answer).woken
      → record { woken = w; steps = s; hub = left } ≡ joined v 0 (walked MOST_STEPS o.hub c.party)
      → record { answer = o.answer; woken = w; steps = s; hub = left } ≡ operated h c
  unfolding walked
  operated-walked v w s left t g f =
      ap (λ (x : Walked). from o x.woken x) f
      ∙ whole (walked MOST_STEPS o.hub c.party)
      ∙ ap (λ (u : ℕ). from o (first_of u (walked MOST_STEPS o.hub c.party).woken) (walked MOST_STEPS o.hub c.party)) g
      ∙ ap (by o) (sym (if-false (turns_down o.answer) [] _ t))
      ∙ operated-by h c o e
    where
      whole : (r : Walked) → from o (first_of v r.woken) (joined v 0 r) ≡ from o (first_of v r.woken) r
      whole r =
          let z : 0 + r.steps ≡ r.steps = omega arith in
          ap (λ (n : ℕ). from o (first_of v r.woken) (record { woken = r.woken; steps = n; hub = r.hub })) z

-- A promise that gives what an operation came to gives what is printed for it.
pub with-printed : {r d : Operated} → r ≡ d → (r ≡ d) × (printed r.answer ≡ printed d.answer)
with-printed e = (e, ap (λ (x : Operated). printed x.answer) e)
