-- Giving up early: who has given up cannot again before its next ask, since no row leads back to a phase that can; and the
-- rows that give a permit lead to a phase without a mark.
use Prim.Native.Nat.{ℕ, zero, suc}
use mathlib.Core.Path.{◌≡◌, refl, sym, ap, ◌∙◌}
use mathlib.Core.Bool.{Bool, true, false, not, ◌&&◌, ◌||◌}
use mathlib.Core.List.{List, [], ◌∷◌}
use mathlib.Core.Logic.{◌≢◌}
use native.Mathlib.Omega.{arith}
use lib.Dec.{ltb}
use Rattle.hub.specs.declared.answers.Answer.{Answer}
use Rattle.hub.specs.declared.answers.Refusal.{Refusal}
use Rattle.hub.specs.declared.moves.Call.{Call}
use Rattle.hub.specs.declared.moves.Op.{Op}
use Rattle.hub.specs.declared.moves.Sight.{Sight}
use Rattle.hub.specs.declared.record.Hub.{Hub}
use Rattle.hub.specs.declared.record.PartySlot.{PartySlot}
use Rattle.hub.specs.declared.record.Phase.{Phase}
use Rattle.hub.specs.declared.opening.Opening.{Opening}
use Rattle.hub.specs.Answers.{printed}
use Rattle.hub.specs.Basics.{among, implies}
use Rattle.hub.specs.Calls.{answer_of, apply, called, checked, move_of, tidied}
use Rattle.claims.specs.EarlyCancel.{ForgetsMark, SameAsk, SecondCancel, call_by}
use Rattle.hub.specs.Fits.{fits}
use Rattle.hub.specs.Look.{look, seen_by}
use Rattle.hub.specs.Moves.{Move, Refuse, Tell, Act, Put, Wake}
use Rattle.hub.specs.Phases.{at_rest, holds, is_marked, is_one_of}
use Rattle.hub.specs.Record.{read_slot, write_slot}
use Rattle.hub.specs.Schedule.{entries, run}
use Rattle.hub.specs.Table.{acquire, can_cancel, cancel, decide, given_up, release, row_tests_of, step_in, tell_radio}
use Rattle.hub.proofs.Laws.Bools.{first, never, second}
use Rattle.hub.proofs.Laws.Opening.{kept-opening, run-opening}
use Rattle.hub.proofs.Laws.Rows.{calls-alike, open_row_lem, open_row, over_rows, rows_alike}
use Rattle.hub.proofs.Laws.Table.{can-cancel}

-- A party that cannot give up.
abbrev Out : PartySlot → Type 0
Out x = can_cancel x.phase ≡ false

-- The caller's phase after a move, from f.
abbrev after : Phase → Move → Phase
after f (Refuse r) = f
after f (Tell y) = f
after f (Act c) = c.slot.phase
after f (Put a c) = c.slot.phase
after f (Wake q x a c) = c.slot.phase

-- What can be computed of every row once it is known whether the hub has radios.
rows_told : (s : Sight) (g : Phase → Move → Bool)
    → ((b : Bool) → s.named ≡ b → (t q : ℕ) → over_rows t q (λ f v. g f (open_row f v s)) ≡ over_rows t q (λ f v. true))
    → (f : Phase) → g f (step_in f s) ≡ true
rows_told s g e f =
    ap (g f) (open_row_lem f (row_tests_of s) s)
    ∙ rows_alike (λ f v. g f (open_row f v s)) (λ f v. true) (e s.named refl) f (row_tests_of s)

-- A step leads from no phase that cannot give up to one that can.
rows_out : (s : Sight) (f : Phase) → can_cancel f || not (can_cancel (after f (step_in f s))) ≡ true
unfolding open_row is_one_of
rows_out s = rows_told s (λ f m. can_cancel f || not (can_cancel (after f m))) go
  where
    go : (b : Bool) → s.named ≡ b → (t q : ℕ)
        → over_rows t q (λ f v. can_cancel f || not (can_cancel (after f (open_row f v s)))) ≡ over_rows t q (λ f v. true)
    go true e t q = rw e
    go false e t q = rw e

not-second : (a b : Bool) → a ≡ false → a || not b ≡ true → b ≡ false
not-second true b e i = never e
not-second false true e i = never (sym i)
not-second false false e i = refl

module _ (s : Sight) (k : Out s.slot) where
  abbrev StaysOut : Move → Type 0
  StaysOut m = can_cancel (after s.slot.phase m) ≡ false

  step-out : StaysOut (step_in s.slot.phase s)
  step-out = not-second _ _ k (rows_out s s.slot.phase)

  -- Nor does another call, but for an ask that is accepted.
  acquire-out : (a b c : Bool) → (printed (answer_of (acquire a b c s))).code ≢ 0x20 → StaysOut (acquire a b c s)
  unfolding acquire
  acquire-out false b c n = k
  acquire-out true true c n = k
  acquire-out true false true n = k
  acquire-out true false false n = absurd (n refl)

  cancel-out : (a b : Bool) (x : Phase) → a ≡ false → StaysOut (cancel a b x s)
  unfolding cancel
  cancel-out true b x e = never e
  cancel-out false b x e = k

  release-out : (a : Bool) → StaysOut (release a s)
  unfolding release is_one_of
  release-out true = refl
  release-out false = k

  radio-out : (a : Bool) → StaysOut (tell_radio a s)
  unfolding tell_radio
  radio-out true = k
  radio-out false = k

  decide-out : (o : Op) (full : Bool) → (o ≡ Op.Acquire → (printed (answer_of (decide o full s))).code ≢ 0x20)
      → StaysOut (decide o full s)
  unfolding decide
  decide-out Op.Acquire full n = acquire-out _ _ full (n refl)
  decide-out Op.Step full n = step-out
  decide-out Op.Cancel full n = cancel-out _ _ _ k
  decide-out Op.Release full n = release-out _
  decide-out Op.Radio full n = radio-out _

  checked-out : (a b : Bool) (o : Op) (full : Bool)
      → (o ≡ Op.Acquire → (printed (answer_of (checked a b (decide o full s)))).code ≢ 0x20)
      → StaysOut (checked a b (decide o full s))
  unfolding checked
  checked-out false b o full n = k
  checked-out true false o full n = k
  checked-out true true o full n = decide-out o full n

-- Nor can a party that is woken.
abbrev wakes_out : Move → Bool
wakes_out (Refuse r) = true
wakes_out (Tell y) = true
wakes_out (Act c) = true
wakes_out (Put a c) = true
wakes_out (Wake q x a c) = not (can_cancel x.phase)

woken-out : (s : Sight) (o : Op) (full : Bool) → wakes_out (decide o full s) ≡ true
unfolding open_row acquire cancel release tell_radio is_one_of
woken-out s = calls-alike s wakes_out true (λ t q. refl) (λ x. refl)

checked-woken : (a b : Bool) (m : Move) → wakes_out m ≡ true → wakes_out (checked a b m) ≡ true
unfolding checked
checked-woken false b m e = refl
checked-woken true false m e = refl
checked-woken true true m e = e

-- A slot that was written, or another one.
written : (l : List PartySlot) (i p : ℕ) (x : PartySlot) → Out (read_slot l p) → (i ≡ p → Out x)
    → Out (read_slot (write_slot l i x) p)
unfolding read_slot write_slot
written [] i p x k f = k
written (y ∷ l) zero zero x k f = f refl
written (y ∷ l) zero (suc p) x k f = k
written (y ∷ l) (suc i) zero x k f = k
written (y ∷ l) (suc i) (suc p) x k f = written l i p x k (λ e. f (ap suc e))

written-own : (l : List PartySlot) (p : ℕ) (x : PartySlot) → Out x → Out (read_slot (write_slot l p x) p)
unfolding read_slot write_slot is_one_of
written-own [] p x k = refl
written-own (y ∷ l) zero x k = k
written-own (y ∷ l) (suc p) x k = written-own l p x k

-- Where a busy party was, its slot is what was written.
written-busy : (l : List PartySlot) (p : ℕ) (x : PartySlot) → at_rest (read_slot l p).phase ≡ false
    → read_slot (write_slot l p x) p ≡ x
unfolding read_slot write_slot is_one_of
written-busy [] p x e = never e
written-busy (y ∷ l) zero x e = refl
written-busy (y ∷ l) (suc p) x e = written-busy l p x e

applied-out : (h : Hub) (s : Sight) (p : ℕ) (m : Move) → Out (read_slot h.slots p) → wakes_out m ≡ true
    → (s.party ≡ p → can_cancel (after s.slot.phase m) ≡ false) → Out (read_slot (apply h s m).slots p)
unfolding apply tidied
applied-out h s p (Refuse r) k w o = k
applied-out h s p (Tell y) k w o = k
applied-out h s p (Act c) k w o = written h.slots s.party p c.slot k o
applied-out h s p (Put a c) k w o = written h.slots s.party p c.slot k o
applied-out h s p (Wake q x a c) k w o =
    written (write_slot h.slots q x) s.party p c.slot
    (written h.slots q p x k (λ e. not-second false (can_cancel x.phase) refl w)) o

module _ (p : ℕ) where
  -- A call after which p still cannot, and a list of them.
  called-out : (h : Hub) (c : Call) → Out (read_slot h.slots p)
      → (c ≡ call_by Op.Acquire p → (printed (called h c).answer).code ≢ 0x20)
      → Out (read_slot (called h c).hub.slots p)
  unfolding seen_by
  called-out h c k n =
      applied-out h (look h c.party) p (move_of h c) k (checked-woken _ _ _ (woken-out (look h c.party) c.op _))
      (λ e. checked-out (look h c.party) (rw e k) (fits h) _ c.op _ (λ f. n (λ i. record { op = f i; party = e i })))

  run_out : (cs : List Call) (h : Hub) → Out (read_slot h.slots p) → SameAsk p (entries h cs)
      → Out (read_slot (run h cs).slots p)
  unfolding run entries SameAsk
  run_out [] h k a = k
  run_out (c ∷ cs) h k a = run_out cs (called h c).hub (called-out h c k a.0) a.1

  -- A give-up that is accepted: p is below n, and cannot give up again.
  marked-out : (f : Phase) → can_cancel f ≡ true → can_cancel (given_up f) ≡ false
  unfolding given_up is_one_of
  marked-out = can-cancel (λ f. can_cancel (given_up f) ≡ false) (λ t. refl) refl refl (λ t. refl)

  cancelled-out : (h : Hub) (s : Sight) (f : Phase) → s.party ≡ p → (a b x y : Bool) → can_cancel f ≡ x
      → answer_of (checked a b (cancel x y (given_up f) s)) ≡ Answer.Accepted
      → (b ≡ true) × Out (read_slot (apply h s (checked a b (cancel x y (given_up f) s))).slots p)
  unfolding checked cancel apply tidied
  cancelled-out h s f i false b x y k e = let z : ◌≡◌ {A = ℕ} 0 1 = cc in let w : ⊥ = omega arith in absurd w
  cancelled-out h s f i true false x y k e = let z : ◌≡◌ {A = ℕ} 0 1 = cc in let w : ⊥ = omega arith in absurd w
  cancelled-out h s f i true true false y k e = let z : ◌≡◌ {A = ℕ} 0 1 = cc in let w : ⊥ = omega arith in absurd w
  cancelled-out h s f i true true true true k e = let z : ◌≡◌ {A = ℕ} 0 1 = cc in let w : ⊥ = omega arith in absurd w
  cancelled-out h s f i true true true false k e = (refl, rw i (written-own h.slots p _ (marked-out f k)))

  first_out : (h : Hub) → (called h (call_by Op.Cancel p)).answer ≡ Answer.Accepted
      → (ltb p h.control.opening.parties ≡ true) × Out (read_slot (called h (call_by Op.Cancel p)).hub.slots p)
  unfolding decide seen_by
  first_out h e = cancelled-out h (look h p) (look h p).slot.phase refl (fits h) _ _ _ refl e

  answered-9 : (h : Hub) → fits h ≡ true → ltb p h.control.opening.parties ≡ true → Out (read_slot h.slots p)
      → (called h (call_by Op.Cancel p)).answer ≡ Answer.Refused Refusal.NotWaiting
  unfolding decide seen_by checked cancel
  answered-9 h e f k = rw (e, f, k)

pub second-cancel : SecondCancel
unfolding SecondCancel
second-cancel h p e cs a f =
    let z = first_out p h e in
    let h₁ = (called h (call_by Op.Cancel p)).hub in
    let same : (run h₁ cs).control.opening ≡ h.control.opening = run-opening h₁ cs ∙ kept-opening h _ _ in
    answered-9 p (run h₁ cs) f (ap (λ (x : Opening). ltb p x.parties) same ∙ z.0) (run_out p cs h₁ z.1 a)

-- 21 and 25: the caller was busy, and its phase holds a permit and has no mark.
abbrev got : Move → Bool
got m = among (0x21 ∷ 0x25 ∷ []) (printed (answer_of m)).code

abbrev got_so : Phase → Phase → Bool
got_so f x = not (at_rest f) && (holds x && not (is_marked x))

abbrev got_held : Phase → Move → Bool
got_held f (Refuse r) = not (got (Refuse r))
got_held f (Tell y) = not (got (Tell y))
got_held f (Act c) = implies (got (Act c)) (got_so f c.slot.phase)
got_held f (Put a c) = implies (got (Put a c)) (got_so f c.slot.phase)
got_held f (Wake q x a c) = not (got (Wake q x a c))

rows-held : (s : Sight) (f : Phase) → got_held f (step_in f s) ≡ true
unfolding open_row is_one_of
rows-held s = rows_told s got_held go
  where
    go : (b : Bool) → s.named ≡ b → (t q : ℕ)
        → over_rows t q (λ f v. got_held f (open_row f v s)) ≡ over_rows t q (λ f v. true)
    go true e t q = rw e
    go false e t q = rw e

checked-held : (f : Phase) (a b : Bool) (m : Move) → got_held f m ≡ true → got_held f (checked a b m) ≡ true
unfolding checked
checked-held f false b m e = refl
checked-held f true false m e = refl
checked-held f true true m e = e

not-got : (b : Bool) → not b ≡ true → b ≡ true → {A : Type 0} → A
not-got true e i = never (sym e)
not-got false e i = never (sym i)

not-true : (b : Bool) → not b ≡ true → b ≡ false
not-true true e = sym e
not-true false e = refl

module _ (h : Hub) (s : Sight) where
  abbrev Held : Phase → Type 0
  Held x = (holds x ≡ true) × (is_marked x ≡ false)

  held_at : (b : Bool) (x : PartySlot) → implies b (got_so (read_slot h.slots s.party).phase x.phase) ≡ true
      → b ≡ true → Held (read_slot (write_slot h.slots s.party x) s.party).phase
  held_at false x e i = never (sym i)
  held_at true x e i =
      let r = not (at_rest (read_slot h.slots s.party).phase) in
      let w = second r _ e in
      rw (written-busy h.slots s.party x (not-true _ (first r _ e)))
      (first (holds x.phase) _ w, not-true _ (second (holds x.phase) _ w))

  applied-held : (m : Move) → got_held (read_slot h.slots s.party).phase m ≡ true → got m ≡ true
      → Held (read_slot (apply h s m).slots s.party).phase
  unfolding apply tidied
  applied-held (Refuse r) e i = not-got _ e i
  applied-held (Tell y) e i = not-got _ e i
  applied-held (Act c) e i = held_at _ c.slot e i
  applied-held (Put a c) e i = held_at _ c.slot e i
  applied-held (Wake q x a c) e i = not-got _ e i

pub forgets-mark : ForgetsMark
unfolding ForgetsMark seen_by decide
forgets-mark h p e =
    applied-held h (look h p) (move_of h (call_by Op.Step p))
    (checked-held _ (fits h) _ _ (rows-held (look h p) (read_slot h.slots p).phase)) e
