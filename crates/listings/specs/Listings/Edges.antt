-- Document 01's run, played by the listings alone; and a run that needs listing 6 read with care.
use Rattle.std.specs.Prelude.{ℕ, ◌≡◌, Bool, true, false, cond, List, [], ◌∷◌, ◌++◌, map, pos}
use Rattle.edges.specs.Edges.{Row, frames}
use Rattle.listings.specs.Listings.Machine.{Event, Listing, Request, idle, play, request, goto}
use Rattle.listings.specs.Listings.Machine.{Acts, Cancels, Inside, Suspend10, Resume10, Resume11, Resume19}
use Rattle.listings.specs.Listings.Words.{told}

-- "One run whole", its answers as in the table of edges.
abbrev pub paper_run : List Event
paper_run =
    Acts 0  -- 20
    ∷ Acts 0  -- 21
    ∷ Acts 1  -- 20
    ∷ Acts 1  -- 22
    ∷ Acts 1  -- 23
    ∷ Acts 1  -- 24
    ∷ Acts 0  -- 20
    ∷ Acts 0  -- 27
    ∷ Cancels 1  -- 20
    ∷ Acts 1  -- 2F
    ∷ Acts 0  -- 28
    ∷ Acts 0 ∷ Acts 0 ∷ Acts 0  -- 2B
    ∷ Acts 1  -- 33
    ∷ []

unfoldable pub SaysPaperRun : Type 0
SaysPaperRun =
    (told paper_run (idle 1) ≡ map (λ (r : Row). r.answer) frames) × ((play paper_run (idle 1)).state ≡ pos 1)

-- 6: 10 read to the letter: cur is the thread that 6: 4 read, and unpark(..) ends whichever wait that thread is in,
-- or comes to.
abbrev pub is_open : Request → Bool
is_open =
    elim [ Request.Fresh ↦ true | Request.Parked j ↦ true | Request.Unparked ↦ false | Request.Aborted ↦ false ]

abbrev pub unpark_thread : ℕ → ℕ → ℕ → Listing → Listing
unpark_thread p i q s =
    cond (is_open (s.requests q)) (goto p (Resume11 i) (request q Request.Unparked s)) (goto p (Resume19 i q) s)

-- One permit. Thread 0 has read thread 1 from cell 0; then 1 gives up, is refused, and begins another acquire().
-- After 0's unpark(..) thread 2 takes the permit from the counter.
abbrev pub until_unpark : List Event
until_unpark =
    Acts 0 ∷ Acts 0 ∷ Acts 0  -- acquire(), 21, release()
    ∷ Acts 1 ∷ Acts 1  -- acquire(), 22
    ∷ Acts 0 ∷ Acts 0  -- 27, 28 at cell 0
    ∷ Acts 1 ∷ Acts 1  -- 23, 24 at cell 0
    ∷ Acts 0  -- 6: 4 reads thread 1
    ∷ Cancels 1 ∷ Acts 1 ∷ Acts 1 ∷ Acts 1  -- cancel(), 2F, 32, acquire()
    ∷ []

abbrev pub after_unpark : List Event
after_unpark =
    Acts 2 ∷ Acts 2  -- acquire(), 21
    ∷ Acts 1 ∷ Acts 1 ∷ Acts 1 ∷ Acts 1  -- 22, 23 and 24 at cell 1, park()
    ∷ []

-- To the letter two threads hold one permit; in the machine unpark(..) fails, and thread 1 waits.
unfoldable pub HeldTwice : Type 0
HeldTwice =
    let s = play until_unpark (idle 1) in
    let t = play after_unpark (unpark_thread 0 0 1 s) in
    (s.lines 0 ≡ Resume10 0 1) × (t.lines 1 ≡ Inside) × (t.lines 2 ≡ Inside)

unfoldable pub HeldOnce : Type 0
HeldOnce =
    let t = play (until_unpark ++ (Acts 0 ∷ after_unpark)) (idle 1) in
    (t.lines 1 ≡ Suspend10 1) × (t.requests 1 ≡ Request.Parked 1) × (t.lines 2 ≡ Inside)
