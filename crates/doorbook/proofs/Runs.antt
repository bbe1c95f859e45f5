-- Every run of frames from an empty book, by value and in place.
use Prim.Native.Nat.{ℕ, ◌*◌, ◌≤◌, ◌<◌}
use mathlib.Core.Path.{◌≡◌, refl, sym, ap, ◌∙◌}
use mathlib.Core.Bool.{Bool, true, false, cond, ◌&&◌}
use mathlib.Core.List.{List, [], ◌∷◌}
use borrow.Author.Tests.{eq-eqb, ne_eqb}
use native.Mathlib.Decide.{ℕ_discrete, dec_le}
use native.Mathlib.Omega.{arith}
use Rattle.std.proofs.lemmas.Bool.Decides.{nat_tests}
use Rattle.std.proofs.lemmas.Grind.{common_steps}
use Rattle.std.proofs.lemmas.List.Folds.{list_any_at}
use lib.Dec.{ltb, eqb}
use lib.ListN.{length, get_or, set, replicate, length-set, length-replicate, get_or-replicate}
use lib.Seq.{get_or-set_other}
use Rattle.doorbook.specs.Book.{empty_book, lock_at, stands, answer_to, code_of, is_accepted, after}
use Rattle.doorbook.specs.Bytes.{locks_of, fitted_at, bytes_after, enter_bytes}
use Rattle.doorbook.specs.Frame.{door_of, new_lock}
use Rattle.doorbook.specs.Runs.{after_run, answered, last_new, EveryRun}
use Rattle.doorbook.specs.Runs.{bytes_after_run, EveryRunInPlace}
use Rattle.doorbook.proofs.Laws.Answers.{beyond, within}
use Rattle.doorbook.proofs.Laws.Bytes.{length-fitted, locks-fitted}

-- A lock stands where it is.
stands-there : (book : List ℕ) (d : ℕ) → d < length book → stands (get_or book d 0) book ≡ true
unfolding stands
stands-there book d h = list_any_at (λ m. eqb m (get_or book d 0)) book d 0 h (eq-eqb _ _ refl)

-- A lock that does not stand is at no door.
at_none : (book : List ℕ) (n d : ℕ) → length book ≡ 200 → stands n book ≡ false → (n ≡ 0 → ⊥)
    → lock_at book d ≡ n → ⊥
at_none book n d size s z e = go (dec_le d 199)
  where
    go : Dec (d ≤ 199) → ⊥
    go (yes h) =
        let g : get_or book d 0 ≡ n = within book d h ∙ e in
        let t : stands (get_or book d 0) book ≡ true = stands-there book d (omega arith) in
        let c : ◌≡◌ {A = ℕ} 0 1 = cc in
        omega arith
    go (no h) = z (sym e ∙ sym (beyond book d (omega arith)))

module _ (book f : List ℕ) where
  -- What the tests say of a frame that has passed them.
  a-door : is_accepted (answer_to book f) ≡ true → door_of f ≤ 199
  unfolding answer_to
  a-door e = grind (arith, nat_tests)

  a-lock : is_accepted (answer_to book f) ≡ true → new_lock f ≡ 0 → ⊥
  unfolding answer_to
  a-lock e z = grind (arith, nat_tests)

  not-standing : is_accepted (answer_to book f) ≡ true → stands (new_lock f) book ≡ false
  unfolding answer_to
  not-standing e = grind (arith, nat_tests)

-- A lock put at a door stands there, and nothing else moves.
at-door : (book : List ℕ) (d n : ℕ) → length book ≡ 200 → d ≤ 199 → lock_at (set book d n) d ≡ n
unfolding lock_at
at-door book d n size h = grind (arith, common_steps)

elsewhere : (book : List ℕ) (d n e : ℕ) → (d ≡ e → ⊥) → lock_at (set book d n) e ≡ lock_at book e
unfolding lock_at
elsewhere book d n e q = ap (cond (ltb 199 e) 0) (get_or-set_other book d e n 0 (λ p. q (sym p)))

lock-after : (book f : List ℕ) (d : ℕ) → length book ≡ 200
    → lock_at (after book f) d
    ≡ cond (is_accepted (answer_to book f) && eqb (door_of f) d) (new_lock f) (lock_at book d)
unfolding after
lock-after book f d size = go (is_accepted (answer_to book f)) (a-door book f) (ℕ_discrete (door_of f) d)
  where
    go : (b : Bool) → (b ≡ true → door_of f ≤ 199) → Dec (door_of f ≡ d)
        → lock_at (cond b (set book (door_of f) (new_lock f)) book) d
        ≡ cond (b && eqb (door_of f) d) (new_lock f) (lock_at book d)
    go false h e = refl
    go true h (yes e) =
        rw (eq-eqb _ _ e)
        (ap (lock_at (set book (door_of f) (new_lock f))) (sym e)
        ∙ at-door book (door_of f) (new_lock f) size (h refl))
    go true h (no e) = rw (ne_eqb _ _ e) (elsewhere book (door_of f) (new_lock f) d e)

record Sound (book : List ℕ) : Type 0 where
  size : length book ≡ 200
  once : (d e : ℕ) → lock_at book d ≡ lock_at book e → (lock_at book d ≡ 0 → ⊥) → d ≡ e

sound-set : (book : List ℕ) (d n : ℕ) → Sound book → d ≤ 199 → (n ≡ 0 → ⊥) → stands n book ≡ false
    → Sound (set book d n)
sound-set book d n s h z t =
    record {
      size = length-set book d n ∙ s.size;
      once = λ a b. go a b (ℕ_discrete d a) (ℕ_discrete d b);
    }
  where
    here : lock_at (set book d n) d ≡ n
    here = at-door book d n s.size h

    -- No other door has it.
    alone : (a b : ℕ) → d ≡ a → (d ≡ b → ⊥) → lock_at (set book d n) a ≡ lock_at (set book d n) b → ⊥
    alone a b p q e =
        at_none book n b s.size t z
        (sym (elsewhere book d n b q) ∙ sym e ∙ ap (lock_at (set book d n)) (sym p) ∙ here)

    go : (a b : ℕ) → Dec (d ≡ a) → Dec (d ≡ b) → lock_at (set book d n) a ≡ lock_at (set book d n) b
        → (lock_at (set book d n) a ≡ 0 → ⊥) → a ≡ b
    go a b (yes p) (yes q) e k = sym p ∙ q
    go a b (yes p) (no q) e k = absurd (alone a b p q e)
    go a b (no p) (yes q) e k = absurd (alone b a q p (sym e))
    go a b (no p) (no q) e k =
        s.once a b (sym (elsewhere book d n a p) ∙ e ∙ elsewhere book d n b q)
        (λ o. k (elsewhere book d n a p ∙ o))

sound-after : (book f : List ℕ) → Sound book → Sound (after book f)
unfolding after
sound-after book f s = go (is_accepted (answer_to book f)) refl
  where
    go : (b : Bool) → is_accepted (answer_to book f) ≡ b
        → Sound (cond b (set book (door_of f) (new_lock f)) book)
    go false e = s
    go true e =
        sound-set book (door_of f) (new_lock f) s (a-door book f e) (a-lock book f e)
        (not-standing book f e)

sound-run : (fs : List (List ℕ)) (book : List ℕ) → Sound book → Sound (after_run book fs)
unfolding after_run
sound-run [] book s = s
sound-run (f ∷ fs) book s = sound-run fs (after book f) (sound-after book f s)

last-run : (fs : List (List ℕ)) (book : List ℕ) (d : ℕ) → Sound book
    → lock_at (after_run book fs) d ≡ last_new d (answered book fs) (lock_at book d)
unfolding after_run answered last_new
last-run [] book d s = refl
last-run (f ∷ fs) book d s =
    last-run fs (after book f) d (sound-after book f s)
    ∙ ap (last_new d (answered (after book f) fs)) (lock-after book f d s.size)

none : (d : ℕ) → lock_at empty_book d ≡ 0
none d = go (dec_le d 199)
  where
    go : Dec (d ≤ 199) → lock_at empty_book d ≡ 0
    go (yes h) = sym (within empty_book d h) ∙ get_or-replicate 200 d 0 0 (omega arith)
    go (no h) = sym (beyond empty_book d (omega arith))

sound_empty : Sound empty_book
sound_empty =
    record { size = length-replicate {A = ℕ} 200 0; once = λ d e p z. absurd (z (none d)) }

pub every-run : EveryRun
every-run fs =
    record {
      last = λ d. last-run fs empty_book d sound_empty ∙ ap (last_new d (answered empty_book fs)) (none d);
      once = (sound-run fs empty_book sound_empty).once;
    }

-- Bytes that hold a book.
record Holds (bytes book : List ℕ) : Type 0 where
  size : length bytes ≡ 800
  locks : locks_of bytes ≡ book

holds_after : (bytes book f : List ℕ) → Holds bytes book → Holds (enter_bytes bytes f) (after book f)
unfolding bytes_after after
holds_after bytes book f h =
    rw (eq-eqb _ _ h.size, ← h.locks)
    (go (is_accepted (answer_to (locks_of bytes) f)) (a-door (locks_of bytes) f))
  where
    go : (b : Bool) → (b ≡ true → door_of f ≤ 199)
        → Holds (cond b (fitted_at (4 * door_of f) bytes f) bytes)
        (cond b (set (locks_of bytes) (door_of f) (new_lock f)) (locks_of bytes))
    go false d = record { size = h.size; locks = refl }
    go true d =
        let k = d refl in
        record {
          size = length-fitted (4 * door_of f) bytes f (omega arith) ∙ h.size;
          locks = locks-fitted (door_of f) bytes f (omega arith);
        }

holds-run : (fs : List (List ℕ)) (bytes book : List ℕ) → Holds bytes book
    → Holds (bytes_after_run bytes fs) (after_run book fs)
unfolding bytes_after_run after_run
holds-run [] bytes book h = h
holds-run (f ∷ fs) bytes book h =
    holds-run fs (enter_bytes bytes f) (after book f) (holds_after bytes book f h)

holds-empty : Holds (replicate 800 0) empty_book
unfolding locks_of
holds-empty = record { size = length-replicate {A = ℕ} 800 0; locks = refl }

pub every-run-in-place : EveryRunInPlace
every-run-in-place fs =
    let h = holds-run fs (replicate 800 0) empty_book holds-empty in
    record {
      locks = h.locks;
      answers = λ f. rw (eq-eqb _ _ h.size) (ap (λ (b : List ℕ). code_of (answer_to b f)) h.locks);
      lock = λ d. rw (eq-eqb _ _ h.size) (ap (λ (b : List ℕ). lock_at b d) h.locks);
    }
