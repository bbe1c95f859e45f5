-- What an action of the listings says in document 01's answers. It says it where it decides a row of the step table.
use Rattle.std.specs.Prelude.{ℕ, cond, List, [], ◌∷◌, ◌++◌}
use Rattle.hub.specs.Answers.{Printed, plain, with_number}
use Rattle.listings.specs.Listings.Machine.{Cell, Event, Line, Listing, Request, happen, is_null, is_thread}
use Rattle.listings.specs.Listings.Machine.{is_thread_of, unparks}
use Rattle.listings.specs.Listings.Machine.{Acts, Cancels}
use Rattle.listings.specs.Listings.Machine.{Outside, Inside, Acquire9, Suspend6, Suspend9, Suspend10, Suspend12}
use Rattle.listings.specs.Listings.Machine.{Taking12}
use Rattle.listings.specs.Listings.Machine.{Release16, Resume2, Resume4, Resume7, Resume10, Resume11, Resume19}
use Rattle.listings.specs.Listings.Machine.{Resume26, Resume28, Handler45, Handler55}
use Rattle.hub.specs.Table.{above_zero, below_zero}

abbrev pub say : ℕ → List Printed
say c = plain c ∷ []

abbrev pub say_of : ℕ → ℕ → List Printed
say_of c t = with_number c t ∷ []

abbrev pub say_woke : ℕ → ℕ → List Printed
say_woke q t = record { code = 0x2A; woken = q; number = t } ∷ []

-- At park(): an aborted thread runs the handler.
unfoldable pub said_at_park : Request → Listing → List Printed
said_at_park Request.Fresh s = []
said_at_park (Request.Parked j) s = []
said_at_park Request.Unparked s = []
said_at_park Request.Aborted s = say (cond (below_zero s.state) 0x2E 0x2F)

-- On reading a cell: only CANCELLED and REFUSE leave nothing to decide.
abbrev pub said_of_cell : ℕ → Cell → List Printed
said_of_cell i =
    elim [
      | Cell.Null ↦ []
      | Cell.Thread q ↦ []
      | Cell.Value ↦ []
      | Cell.Taken ↦ []
      | Cell.Resumed ↦ []
      | Cell.Cancelled ↦ say_of 0x2C i
      | Cell.Refuse ↦ say_of 0x2D i
    ]

unfoldable pub said : Line → ℕ → Listing → List Printed
said Outside p s = say 0x20
said Inside p s = say 0x20
said Acquire9 p s = say (cond (above_zero s.state) 0x21 0x22)
said Suspend6 p s = say_of 0x23 s.suspend_idx
said (Suspend9 i) p s = say_of (cond (is_null (s.cells i)) 0x24 0x25) i
said (Suspend10 i) p s = said_at_park (s.requests p) s
said (Suspend12 i) p s = []
said (Taking12 i) p s = []
said Release16 p s = say (cond (below_zero s.state) 0x27 0x26)
said Resume2 p s = say_of 0x28 s.resume_idx
said (Resume4 i) p s = said_of_cell i (s.cells i)
said (Resume7 i) p s = cond (is_null (s.cells i)) (say_of 0x29 i) []
said (Resume10 i q) p s = cond (unparks q i s) (say_woke q i) []
said (Resume11 i) p s = []
said (Resume19 i q) p s = cond (is_thread_of q (s.cells i)) (say_of 0x2B i) []
said (Resume26 i) p s = []
said (Resume28 i) p s = []
said (Handler45 i) p s = say_of (cond (is_thread (s.cells i)) 0x30 0x31) i
said (Handler55 i) p s = say_of (cond (is_thread (s.cells i)) 0x32 0x33) i

unfoldable pub said_at : Event → Listing → List Printed
said_at (Acts p) s = said (s.lines p) p s
said_at (Cancels p) s = say 0x20

unfoldable pub told : List Event → Listing → List Printed
told [] s = []
told (e ∷ es) s = said_at e s ++ told es (happen e s)
