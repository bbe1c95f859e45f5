-- The way of a radio, answer by answer. An answer is made of its tag and of what it holds.
use Prim.Native.Nat.{ℕ}
use mathlib.Core.Path.{◌≡◌, refl, ap}
use mathlib.Core.List.{List, [], ◌∷◌, map}
use mathlib.Core.Logic.{inl, inr}
use lib.ListN.{length, replicate, get_or}
use types.Run.{OneOf}
use denote.Enum.Declared.{tag_of}
use Rattle.hub.specs.contracts.answers.Answer as answer
use Rattle.hub.specs.declared.answers.Answer.{Answer}
use Rattle.hub.specs.declared.answers.Answer.TheVariants.{Refused, Opened, Accepted, Acquired, MustWait}
use Rattle.hub.specs.declared.answers.Answer.TheVariants.{DrewTicket, Parked, TookPermit, Returned}
use Rattle.hub.specs.declared.answers.Answer.TheVariants.{MustResume, StartedResume, LeftPermit, Woke}
use Rattle.hub.specs.declared.answers.Answer.TheVariants.{Delegated, Skipped, ResumeRefused, MustCancel}
use Rattle.hub.specs.declared.answers.Answer.TheVariants.{MustRefuse, MarkedCancelled, PassedOn}
use Rattle.hub.specs.declared.answers.Answer.TheVariants.{MarkedRefused, DroppedPermit, Fetched, NotYet}
use Rattle.hub.specs.declared.answers.Answer.TheVariants.{Stored, Radio, NoRadio}
use Rattle.hub.specs.declared.answers.Refusal.{Refusal}
use Rattle.hub.specs.declared.record.Pool.{Pool}
use Rattle.hub.specs.Answers.{plain, printed, refusal_code}
use Rattle.hub.specs.Radios.{hand_of, moved, put_back}
use Rattle.hub.proofs.Laws.Printed.{few-refusals}
use Rattle.hub.proofs.Laws.Radios.{unmoved}

-- The answers with one refusal, one woken party and one number.
abbrev answers_with : Refusal → ℕ → ℕ → List Answer
answers_with r q t =
    Refused r ∷ Opened ∷ Accepted ∷ Acquired ∷ MustWait ∷ DrewTicket t ∷ Parked t ∷ TookPermit t
    ∷ Returned ∷ MustResume ∷ StartedResume t ∷ LeftPermit t ∷ Woke q t ∷ Delegated t ∷ Skipped t
    ∷ ResumeRefused t ∷ MustCancel ∷ MustRefuse ∷ MarkedCancelled t ∷ PassedOn t ∷ MarkedRefused t
    ∷ DroppedPermit t ∷ Fetched ∷ NotYet ∷ Stored ∷ Radio t ∷ NoRadio ∷ []

-- An answer is one of those with what it holds.
holding : (a : Answer) → (r : Refusal) × (q : ℕ) × (t : ℕ)
    × (get_or (answers_with r q t) (tag_of answer.the_type a) Opened ≡ a)
holding (Refused r) = (r, 0, 0, refl)
holding Opened = (Refusal.Unfit, 0, 0, refl)
holding Accepted = (Refusal.Unfit, 0, 0, refl)
holding Acquired = (Refusal.Unfit, 0, 0, refl)
holding MustWait = (Refusal.Unfit, 0, 0, refl)
holding (DrewTicket t) = (Refusal.Unfit, 0, t, refl)
holding (Parked t) = (Refusal.Unfit, 0, t, refl)
holding (TookPermit t) = (Refusal.Unfit, 0, t, refl)
holding Returned = (Refusal.Unfit, 0, 0, refl)
holding MustResume = (Refusal.Unfit, 0, 0, refl)
holding (StartedResume t) = (Refusal.Unfit, 0, t, refl)
holding (LeftPermit t) = (Refusal.Unfit, 0, t, refl)
holding (Woke q t) = (Refusal.Unfit, q, t, refl)
holding (Delegated t) = (Refusal.Unfit, 0, t, refl)
holding (Skipped t) = (Refusal.Unfit, 0, t, refl)
holding (ResumeRefused t) = (Refusal.Unfit, 0, t, refl)
holding MustCancel = (Refusal.Unfit, 0, 0, refl)
holding MustRefuse = (Refusal.Unfit, 0, 0, refl)
holding (MarkedCancelled t) = (Refusal.Unfit, 0, t, refl)
holding (PassedOn t) = (Refusal.Unfit, 0, t, refl)
holding (MarkedRefused t) = (Refusal.Unfit, 0, t, refl)
holding (DroppedPermit t) = (Refusal.Unfit, 0, t, refl)
holding Fetched = (Refusal.Unfit, 0, 0, refl)
holding NotYet = (Refusal.Unfit, 0, 0, refl)
holding Stored = (Refusal.Unfit, 0, 0, refl)
holding (Radio t) = (Refusal.Unfit, 0, t, refl)
holding NoRadio = (Refusal.Unfit, 0, 0, refl)

-- Where f is y at each of the keys, it is y at an answer whose tag is one of them.
arm : {A : Type 0} (ks : List ℕ) (f : Answer → A) {y : A} (a : Answer)
    → ((r : Refusal) (q t : ℕ)
    → map (λ k. f (get_or (answers_with r q t) k Opened)) ks ≡ replicate (length ks) y)
    → OneOf ks (tag_of answer.the_type a) → y ≡ f a
arm ks f {y} a e h = go ks (e (holding a).0 (holding a).1 (holding a).2) h
  where
    with : ℕ → Answer
    with k = get_or (answers_with (holding a).0 (holding a).1 (holding a).2) k Opened

    go : (ks : List ℕ) → map (λ k. f (with k)) ks ≡ replicate (length ks) y
        → OneOf ks (tag_of answer.the_type a) → y ≡ f a
    go [] e h = absurd h
    go (k ∷ []) e h = cc (holding a).3
    go (k ∷ k' ∷ ks) e (inl h) = cc (holding a).3
    go (k ∷ k' ∷ ks) e (inr h) = go (k' ∷ ks) (cc) h

module _ (p : ℕ) (q : Pool) where
  -- The radio of a party goes back to the store.
  pub stored : (a : Answer) → OneOf (24 ∷ 15 ∷ []) (tag_of answer.the_type a)
      → put_back (hand_of q p) q ≡ moved (printed a) p q
  unfolding moved
  stored a = arm (24 ∷ 15 ∷ []) (λ a. moved (printed a) p q) a (λ r w t. refl)

  -- By the other answers none moves.
  pub still : (a : Answer)
      → OneOf (0 ∷ 1 ∷ 2 ∷ 3 ∷ 4 ∷ 5 ∷ 6 ∷ 8 ∷ 9 ∷ 10 ∷ 14 ∷ 16 ∷ 17 ∷ 18 ∷ 20 ∷ 23 ∷ 25 ∷ 26 ∷ [])
      (tag_of answer.the_type a)
      → q ≡ moved (printed a) p q
  unfolding moved
  still a =
      arm (0 ∷ 1 ∷ 2 ∷ 3 ∷ 4 ∷ 5 ∷ 6 ∷ 8 ∷ 9 ∷ 10 ∷ 14 ∷ 16 ∷ 17 ∷ 18 ∷ 20 ∷ 23 ∷ 25 ∷ 26 ∷ [])
      (λ a. moved (printed a) p q) a (λ r w t. ap (λ (x : Pool). x ∷ replicate 17 q) (unmoved (plain (refusal_code r)) p q (few-refusals r)))
