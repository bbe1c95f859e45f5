-- From the hub's answers to an execution of the listings: which actions an answer stands for.
use Rattle.std.specs.Prelude.{ℕ, zero, suc, ◌+◌, ◌-◌, cond, ◌&&◌, List, [], ◌∷◌, ◌++◌, eqb, leb, ltb, replicate}
use Rattle.hub.specs.declared.moves.Op.{Op}
use Rattle.hub.specs.Answers.{Printed, with_number}
use Rattle.listings.specs.Listings.Machine.{Event, Listing, play}
use Rattle.listings.specs.Listings.Machine.{Acts, Cancels}
use Rattle.hub.specs.Schedule.{Entry}

-- How many actions of the party's own thread an answer stands for, and at which lines. 20, 28 and 2A are below. What
-- radios add, 36 to 39, is outside of the semaphore.
pub record CodeActions : Type 0 where
  pub code : ℕ
  pub actions : ℕ

abbrev pub acting : ℕ → ℕ → CodeActions
acting c n = record { code = c; actions = n }

abbrev pub ACTIONS : List CodeActions
ACTIONS =
    acting 0x21 1  -- 15: 9, 11
    ∷ acting 0x22 1  -- 15: 9, 13
    ∷ acting 0x23 1  -- 2: 6
    ∷ acting 0x24 1  -- 2: 9
    ∷ acting 0x25 3  -- 2: 9 fails, 12 reads, 12 writes
    ∷ acting 0x26 1  -- 15: 16
    ∷ acting 0x27 1  -- 15: 16, 18
    ∷ acting 0x29 2  -- 6: 4, 7
    ∷ acting 0x2B 3  -- 6: 4, 10 fails, 19
    ∷ acting 0x2C 2  -- 6: 4, 26
    ∷ acting 0x2D 2  -- 6: 4, 28
    ∷ acting 0x2E 1  -- 6: 42, which is 15: 21
    ∷ acting 0x2F 1  -- 6: 42, which is 15: 21
    ∷ acting 0x30 1  -- 6: 45
    ∷ acting 0x31 1  -- 6: 45, 52
    ∷ acting 0x32 1  -- 6: 55
    ∷ acting 0x33 1  -- 6: 55, 61
    ∷ []

abbrev pub actions_in : ℕ → List CodeActions → ℕ
actions_in c [] = 0
actions_in c (x ∷ xs) = cond (eqb c x.code) x.actions (actions_in c xs)

-- 20: acquire() or release() is entered, or cancel() called.
abbrev pub entered : Op → ℕ → List Event
entered Op.Acquire p = Acts p ∷ []
entered Op.Step p = []
entered Op.Cancel p = Cancels p ∷ []
entered Op.Release p = Acts p ∷ []
entered Op.Radio p = []

-- 28: n cancelled cells are passed first, by 6: 2, 4 and 26 each.
unfoldable pub drawing : ℕ → ℕ → List Event
drawing zero p = Acts p ∷ []
drawing (suc n) p = Acts p ∷ Acts p ∷ Acts p ∷ drawing n p

-- 2A: 6: 4 and 10; the woken thread returns from 2: 10; 6: 11.
abbrev pub waking : ℕ → ℕ → List Event
waking p q = Acts p ∷ Acts p ∷ Acts q ∷ Acts p ∷ []

-- The actions for an answer to party p's call, resumeIdx being r.
unfoldable pub actions : Op → ℕ → ℕ → Printed → List Event
actions o p r y =
    let c = y.code in
    cond (ltb c 0x20) []
    (cond (eqb c 0x20) (entered o p)
    (cond (eqb c 0x28) (drawing (y.number - r) p)
    (cond (eqb c 0x2A) (waking p y.woken) (replicate (actions_in c ACTIONS) (Acts p)))))

-- What they say: the answer itself, if it is one of the semaphore's; before a 28 a 28 and a 2C for each cell passed.
unfoldable pub passing : ℕ → ℕ → List Printed
passing zero r = with_number 0x28 r ∷ []
passing (suc n) r = with_number 0x28 r ∷ with_number 0x2C r ∷ passing n (r + 1)

unfoldable pub words : ℕ → Printed → List Printed
words r y =
    let c = y.code in
    cond (eqb c 0x28) (passing (y.number - r) r) (cond (leb 0x20 c && leb c 0x33) (y ∷ []) [])

-- Of a schedule, each answer's on the state that the actions before it left.
unfoldable pub execution : List Entry → Listing → List Event
execution [] s = []
execution (x ∷ xs) s =
    let es = actions x.call.op x.call.party s.resume_idx x.answer in
    es ++ execution xs (play es s)

unfoldable pub transcript : List Entry → Listing → List Printed
transcript [] s = []
transcript (x ∷ xs) s =
    let es = actions x.call.op x.call.party s.resume_idx x.answer in
    words s.resume_idx x.answer ++ transcript xs (play es s)
