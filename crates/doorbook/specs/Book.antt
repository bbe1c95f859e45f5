-- The book for 200 doors: which lock stands, and how it answers a frame. A book is the list of its
-- locks.
use Rattle.std.specs.Prelude.{ℕ, Bool, true, false, cond, not, ◌||◌, List, eqb, ltb, get_or, set, replicate}
use Rattle.std.specs.Prelude.{Result, Ok, Err}
use Rattle.std.specs.List.{list_any}
use Rattle.doorbook.specs.declared.Refusal.{Refusal}
use Rattle.doorbook.specs.declared.Replacement.{Replacement}
use Rattle.doorbook.specs.Frame.{is_frame, door_of, new_lock, superseded}

abbrev pub empty_book : List ℕ
empty_book = replicate 200 0

-- The lock at a door: 0 if none or the door is above 199.
unfoldable pub lock_at : List ℕ → ℕ → ℕ
lock_at book d = cond (ltb 199 d) 0 (get_or book d 0)

-- Does a lock stand at any door?
unfoldable pub stands : ℕ → List ℕ → Bool
stands n book = list_any (λ m. eqb m n) book

-- 12, 19, 20 and 21 in that order, the first that applies; else the frame is accepted.
unfoldable pub answer_to : List ℕ → List ℕ → Result (Unit {0}) Refusal
answer_to book f =
    cond (not (is_frame f)) (Err Refusal.Malformed)
    (cond (ltb 199 (door_of f)) (Err Refusal.NoSuchDoor)
    (cond (eqb (new_lock f) 0 || stands (new_lock f) book) (Err Refusal.NotNew)
    (cond (not (eqb (superseded f) (lock_at book (door_of f)))) (Err Refusal.NotThere) (Ok tt))))

-- The tests in two parts, as the book by value and the book in bytes share them: what a frame asks for, if it is well
-- formed and its door is one (12, 19); and whether that is entered (20, 21), where `there` is the lock at its door.
abbrev pub replacement_in : List ℕ → Result Replacement Refusal
replacement_in f =
    cond (not (is_frame f)) (Err Refusal.Malformed)
    (cond (ltb 199 (door_of f)) (Err Refusal.NoSuchDoor)
    (Ok (record { door = door_of f; lock = new_lock f; superseded = superseded f })))

abbrev pub admitted : Replacement → Bool → ℕ → Result (Unit {0}) Refusal
admitted r stands there =
    cond (eqb r.lock 0 || stands) (Err Refusal.NotNew)
    (cond (not (eqb r.superseded there)) (Err Refusal.NotThere) (Ok tt))

abbrev pub number_of : Refusal → ℕ
number_of Refusal.Malformed = 12
number_of Refusal.NoSuchDoor = 19
number_of Refusal.NotNew = 20
number_of Refusal.NotThere = 21

abbrev pub code_of : Result (Unit {0}) Refusal → ℕ
code_of (Ok _) = 0x41
code_of (Err why) = number_of why

abbrev pub is_accepted : Result (Unit {0}) Refusal → Bool
is_accepted (Ok _) = true
is_accepted (Err _) = false

-- An accepted frame puts the new lock at the door; a refused one leaves the book alone.
unfoldable pub after : List ℕ → List ℕ → List ℕ
after book f = cond (is_accepted (answer_to book f)) (set book (door_of f) (new_lock f)) book
