-- An operation answers 20 or a refusal, and its steps follow from that; and what an opening makes.
use Prim.Native.Nat.{ℕ, ◌≤◌, ◌<◌}
use mathlib.Core.Path.{◌≡◌, refl, ap}
use mathlib.Core.Bool.{Bool, true, false, cond}
use mathlib.Core.List.{List, [], ◌∷◌}
use native.Mathlib.Omega.{arith}
use borrow.Author.Tests.{le-leb, le-ltb, lt-leb, lt-ltb}
use types.Run.{OneOf, miss}
use denote.Enum.Declared.{tag_of}
use Rattle.std.proofs.Common.{Some, None, is_some, refl}
use Rattle.std.specs.Option.{unwrap_or}
use Rattle.hub.specs.declared.answers.Answer.{Answer}
use Rattle.hub.specs.declared.answers.Refusal.{Refusal}
use Rattle.hub.specs.declared.opening.Opening.{Opening}
use Rattle.hub.specs.declared.record.Outcome.{Outcome}
use Rattle.hub.specs.Answers.{printed}
use Rattle.std.specs.Prelude.{Err, Ok}
use Rattle.hub.specs.Opening.{opening, tests, unless_refused}
use Rattle.hub.specs.contracts.answers.Answer as answer
use Rattle.hub.proofs.Laws.Opening.{Ends, ends}
use Rattle.hub.proofs.Laws.Printed.{no-refusal}
use Rattle.screen.specs.declared.record.Line.{Line}
use Rattle.screen.specs.declared.record.Moved.{Moved}
use Rattle.screen.specs.declared.record.Operation.{Operation}
use Rattle.screen.specs.Fits.{holder_count}
use Rattle.screen.specs.Line.{opened_line}
use Rattle.screen.specs.Moves.{acquire, cancel, checked_move, has_permit, has_waiter, is_accepted, line_move}
use Rattle.screen.specs.Moves.{line_opening, no_line, own_move, refused_move, release}
use Rattle.screen.specs.Steps.{TO_HAND_OVER, TO_WAIT, accepted_steps, own_steps, steps_to_rest, to_counter}

pub with-printed : {m d : Moved} → m ≡ d → (m ≡ d) × (printed m.answer ≡ printed d.answer)
with-printed e = (e, ap (λ (m : Moved). printed m.answer) e)

-- 20, or a refusal.
pub data Told : Answer → Type 0 where
  taken : Told Answer.Accepted
  turned : (r : Refusal) → Told (Answer.Refused r)

acquire-told : (a b : Bool) (l : Line) (p : ℕ) → Told (acquire a b l p).answer
unfolding acquire
acquire-told false b l p = turned Refusal.NotFree
acquire-told true true l p = taken
acquire-told true false l p = taken

cancel-told : (a b : Bool) (l : Line) (p : ℕ) → Told (cancel a b l p).answer
unfolding cancel
cancel-told false b l p = turned Refusal.NotWaiting
cancel-told true true l p = turned Refusal.NotCancellable
cancel-told true false l p = taken

release-told : (a b : Bool) (l : Line) (p : ℕ) → Told (release a b l p).answer
unfolding release
release-told false b l p = turned Refusal.NotHolding
release-told true true l p = taken
release-told true false l p = taken

own-told : (l : Line) (o : Operation) (p : ℕ) → Told (own_move l o p).answer
unfolding own_move
own-told l Operation.Acquire p = acquire-told _ _ l p
own-told l Operation.Cancel p = cancel-told _ _ l p
own-told l Operation.Release p = release-told _ _ l p

checked-told : (a b : Bool) (l : Line) (m : Moved) → Told m.answer → Told (checked_move a b l m).answer
unfolding checked_move
checked-told false b l m t = turned Refusal.Unfit
checked-told true false l m t = turned Refusal.NoSuchParty
checked-told true true l m t = t

pub told : (l : Line) (o : Operation) (p : ℕ) → Told (line_move l o p).answer
unfolding line_move
told l o p = checked-told _ _ l _ (own-told l o p)

-- The tags of all answers but 20: here they are refusals.
abbrev pub OTHERS : List ℕ
OTHERS =
    0 ∷ 1 ∷ 3 ∷ 4 ∷ 5 ∷ 6 ∷ 7 ∷ 8 ∷ 9 ∷ 10 ∷ 11 ∷ 12 ∷ 13 ∷ 14 ∷ 15 ∷ 16 ∷ 17 ∷ 18 ∷ 19 ∷ 20 ∷ 21 ∷ 22 ∷ 23 ∷ 24
    ∷ 25 ∷ 26 ∷ []

pub not_taken : {y : Answer} → Told y → OneOf OTHERS (tag_of answer.the_type y) → is_accepted y ≡ false
not_taken taken t = absurd (miss OTHERS 2 tt t)
not_taken (turned r) t = no-refusal r 0x20 (omega arith)

-- Each operation that is accepted takes a step at least.
pub steps-least : (l : Line) (o : Operation) → 1 ≤ own_steps l o
unfolding own_steps
steps-least l Operation.Acquire = go (has_permit l) l.named
  where
    go : (b n : Bool) → 1 ≤ cond b (to_counter n) TO_WAIT
    go true true = omega arith
    go true false = omega arith
    go false n = omega arith
steps-least l Operation.Cancel = omega arith
steps-least l Operation.Release = go (has_waiter l) l.named
  where
    go : (b n : Bool) → 1 ≤ cond b TO_HAND_OVER (to_counter n)
    go true n = omega arith
    go false true = omega arith
    go false false = omega arith

module _ (l : Line) (o : Operation) (p : ℕ) where
  pub no_steps : is_accepted (line_move l o p).answer ≡ false → accepted_steps l o p ≡ None
  unfolding accepted_steps
  no_steps e = rw e

  pub none-to-rest : is_accepted (line_move l o p).answer ≡ false → steps_to_rest l o p ≡ 0
  unfolding steps_to_rest
  none-to-rest e = rw e

  pub own-to-rest : (line_move l o p).answer ≡ Answer.Accepted → steps_to_rest l o p ≡ own_steps l o
  unfolding steps_to_rest
  own-to-rest e = rw e

  pub some-steps : (line_move l o p).answer ≡ Answer.Accepted → accepted_steps l o p ≡ Some (own_steps l o)
  unfolding accepted_steps steps_to_rest
  some-steps e = rw e

  pub steps-counted : unwrap_or (accepted_steps l o p) 0 ≡ steps_to_rest l o p
  unfolding accepted_steps steps_to_rest
  steps-counted = go (is_accepted (line_move l o p).answer)
    where
      go : (b : Bool) → unwrap_or (cond b (Some (cond b (own_steps l o) 0)) None) 0 ≡ cond b (own_steps l o) 0
      go true = refl
      go false = refl

  -- An operation that is accepted takes a step at least, so that 0 is told of a refusal alone.
  pub told_by_0 : steps_to_rest l o p ≡ 0 → accepted_steps l o p ≡ None
  unfolding accepted_steps steps_to_rest
  told_by_0 = go (is_accepted (line_move l o p).answer) (own_steps l o) (steps-least l o)
    where
      go : (b : Bool) (n : ℕ) → 1 ≤ n → cond b n 0 ≡ 0 → cond b (Some (cond b n 0)) None ≡ None
      go true n h e = absurd (omega (arith, h, e))
      go false n h e = refl

  pub told-by-some : (steps_to_rest l o p ≡ 0 → ⊥) → accepted_steps l o p ≡ Some (steps_to_rest l o p)
  unfolding accepted_steps steps_to_rest
  told-by-some = go (is_accepted (line_move l o p).answer) (own_steps l o)
    where
      go : (b : Bool) (n : ℕ) → (cond b n 0 ≡ 0 → ⊥) → cond b (Some (cond b n 0)) None ≡ Some (cond b n 0)
      go true n h = refl
      go false n h = absurd (h refl)

  -- There is a number for what is accepted, and for nothing else.
  pub some-if-accepted : is_some (accepted_steps l o p) ≡ is_accepted (line_move l o p).answer
  unfolding accepted_steps
  some-if-accepted = go (is_accepted (line_move l o p).answer)
    where
      go : (b : Bool) → is_some (cond b (Some (steps_to_rest l o p)) None) ≡ b
      go true = refl
      go false = refl

-- The steps of each operation.
module _ (l : Line) where
  pub at-counter : holder_count l < l.permits → own_steps l Operation.Acquire ≡ to_counter l.named
  unfolding own_steps has_permit
  at-counter h = rw (lt-ltb (holder_count l) l.permits h)

  pub must-wait : l.permits ≤ holder_count l → own_steps l Operation.Acquire ≡ TO_WAIT
  unfolding own_steps has_permit
  must-wait h = rw (le-ltb (holder_count l) l.permits h)

  pub hands-over : 1 ≤ l.waiting → own_steps l Operation.Release ≡ TO_HAND_OVER
  unfolding own_steps has_waiter
  hands-over h = rw (le-leb 1 l.waiting h)

  pub to-counter : l.waiting < 1 → own_steps l Operation.Release ≡ to_counter l.named
  unfolding own_steps has_waiter
  to-counter h = rw (lt-leb 1 l.waiting h)

-- An opening, as it ends at the hub: refused, or all its tests are passed.
module _ (o : Opening) where
  abbrev line_by : Bool → Outcome → Moved
  line_by b x = record { answer = x.answer; line = cond b (opened_line o) no_line }

  refused-by : {b : Bool} {x : Outcome} {r : Refusal} → Ends o b x → unless_refused (tt {0}) x.answer ≡ Err r
      → line_by b x ≡ refused_move r no_line
  refused-by (Ends.refused q) e = cc
  refused-by Ends.opened e = let z : ◌≡◌ {A = ℕ} 0 1 = cc in let w : ⊥ = omega arith in absurd w

  opened-by : {b : Bool} {x : Outcome} → Ends o b x → unless_refused (tt {0}) x.answer ≡ Ok tt
      → line_by b x ≡ record { answer = Answer.Opened; line = opened_line o }
  opened-by (Ends.refused q) e = let z : ◌≡◌ {A = ℕ} 0 1 = cc in let w : ⊥ = omega arith in absurd w
  opened-by Ends.opened e = refl

  pub not_opened_lem : {r : Refusal} → unless_refused (tt {0}) (opening o).answer ≡ Err r
      → line_opening o ≡ refused_move r no_line
  unfolding line_opening
  not_opened_lem e = refused-by (ends o (tests o)) e

  pub opens : unless_refused (tt {0}) (opening o).answer ≡ Ok tt
      → line_opening o ≡ record { answer = Answer.Opened; line = opened_line o }
  unfolding line_opening
  opens e = opened-by (ends o (tests o)) e

  -- An opening is answered 1F or a refusal, and never 20.
  pub never-accepted : is_accepted (line_opening o).answer ≡ false
  unfolding line_opening
  never-accepted = go (ends o (tests o))
    where
      go : {b : Bool} {x : Outcome} → Ends o b x → is_accepted x.answer ≡ false
      go (Ends.refused r) = no-refusal r 0x20 (omega arith)
      go Ends.opened = refl
