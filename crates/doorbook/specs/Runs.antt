-- "After every run of frames from an empty book, a door's lock is the new one of its last accepted
-- frame, 0 without one, and no lock other than 0 stands at two doors."
use Rattle.std.specs.Prelude.{ℕ, ◌≡◌, cond, ◌&&◌, List, [], ◌∷◌, eqb, replicate, Result}
use Rattle.doorbook.specs.declared.Refusal.{Refusal}
use Rattle.doorbook.specs.Book.{empty_book, lock_at, answer_to, code_of, is_accepted, after}
use Rattle.doorbook.specs.Bytes.{locks_of, enter_code, enter_bytes, lock_in}
use Rattle.doorbook.specs.Frame.{door_of, new_lock}

-- The book that a run of frames leaves.
unfoldable pub after_run : List ℕ → List (List ℕ) → List ℕ
after_run book [] = book
after_run book (f ∷ fs) = after_run (after book f) fs

-- A frame and its answer, all that the locks are counted from.
pub record Answered : Type 0 where
  pub frame : List ℕ
  pub answer : Result (Unit {0}) Refusal

unfoldable pub answered : List ℕ → List (List ℕ) → List Answered
answered book [] = []
answered book (f ∷ fs) = record { frame = f; answer = answer_to book f } ∷ answered (after book f) fs

-- The new lock of a door's last accepted frame; without one, the number given.
unfoldable pub last_new : ℕ → List Answered → ℕ → ℕ
last_new d [] none = none
last_new d (e ∷ es) none =
    last_new d es
    (cond (is_accepted e.answer && eqb (door_of e.frame) d) (new_lock e.frame) none)

-- The claim, for every run of frames, of any bytes each, from an empty book.
pub record BookHolds (frames : List (List ℕ)) (book : List ℕ) : Type 0 where
  pub last : (d : ℕ) → lock_at book d ≡ last_new d (answered empty_book frames) 0
  pub once : (d e : ℕ) → lock_at book d ≡ lock_at book e → (lock_at book d ≡ 0 → ⊥) → d ≡ e

abbrev pub EveryRun : Type 0
EveryRun = (frames : List (List ℕ)) → BookHolds frames (after_run empty_book frames)

-- The bytes that a run leaves.
unfoldable pub bytes_after_run : List ℕ → List (List ℕ) → List ℕ
bytes_after_run bytes [] = bytes
bytes_after_run bytes (f ∷ fs) = bytes_after_run (enter_bytes bytes f) fs

-- In place the same: from 800 bytes of 0 every run leaves the book that it leaves by value, which
-- answers the next frame alike and shows the same lock at every door.
pub record SameBook (bytes book : List ℕ) : Type 0 where
  pub locks : locks_of bytes ≡ book
  pub answers : (f : List ℕ) → enter_code bytes f ≡ code_of (answer_to book f)
  pub lock : (d : ℕ) → lock_in bytes d ≡ lock_at book d

abbrev pub EveryRunInPlace : Type 0
EveryRunInPlace =
    (frames : List (List ℕ)) → SameBook (bytes_after_run (replicate 800 0) frames) (after_run empty_book frames)
