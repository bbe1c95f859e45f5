-- Ask, give up and give back as single moves, refused as at the hub.
use Rattle.std.specs.Prelude.{ℕ, Result, Ok, Err, Bool, true, false, cond, not, ◌&&◌, List, [], ◌∷◌, ◌++◌, eqb, leb, ltb, get_or, drop, set}
use Rattle.hub.specs.declared.answers.Answer.{Answer}
use Rattle.hub.specs.declared.answers.Refusal.{Refusal}
use Rattle.hub.specs.declared.moves.Call.{Call}
use Rattle.hub.specs.declared.moves.Op.{Op}
use Rattle.hub.specs.declared.opening.Opening.{Opening}
use Rattle.hub.specs.Answers.{printed}
use Rattle.hub.specs.Kinds.{kind_in}
use Rattle.hub.specs.Opening.{all_passed, nobody, opening, tests}
use Rattle.screen.specs.declared.record.Line.{Line}
use Rattle.screen.specs.declared.record.Moved.{Moved}
use Rattle.screen.specs.declared.record.Operation.{Operation}
use Rattle.screen.specs.Fits.{holder_count, line_fits}
use Rattle.screen.specs.Line.{holds_in, opened_line, waiters, waits_in, with_holding, with_waiters}

-- The hub's call by which an operation begins there.
abbrev pub call_of : Operation → ℕ → Call
call_of Operation.Acquire p = record { op = Op.Acquire; party = p }
call_of Operation.Cancel p = record { op = Op.Cancel; party = p }
call_of Operation.Release p = record { op = Op.Release; party = p }

-- A refusal leaves the line alone.
abbrev pub refused_move : Refusal → Line → Moved
refused_move r l = record { answer = Answer.Refused r; line = l }

abbrev pub accepted_move : Line → Moved
accepted_move l = record { answer = Answer.Accepted; line = l }

-- What a move comes to: the line that is left, or why not.
abbrev pub moved_by : Result Line Refusal → Line → Moved
moved_by (Ok m) l = accepted_move m
moved_by (Err r) l = refused_move r l

-- Is a permit there? Does anybody wait?
unfoldable pub has_permit : Line → Bool
has_permit l = ltb (holder_count l) l.permits

unfoldable pub has_waiter : Line → Bool
has_waiter l = leb 1 l.waiting

-- The first that waits.
unfoldable pub next_waiter : Line → ℕ
next_waiter l = get_or (waiters l) 0 0

-- A list without the first x that is in it; the others keep their order.
unfoldable pub without : ℕ → List ℕ → List ℕ
without x [] = []
without x (y ∷ l) = cond (eqb x y) l (y ∷ without x l)

-- Ask: is the party free; is a permit there? Else it goes to the end of the queue.
unfoldable pub acquire : Bool → Bool → Line → ℕ → Moved
acquire false k l p = refused_move Refusal.NotFree l
acquire true true l p = accepted_move (with_holding (set l.holding p true) l)
acquire true false l p = accepted_move (with_waiters (waiters l ++ (p ∷ [])) l)

-- Give up: does the party wait; is its kind 3? It leaves the queue.
unfoldable pub cancel : Bool → Bool → Line → ℕ → Moved
cancel false k l p = refused_move Refusal.NotWaiting l
cancel true true l p = refused_move Refusal.NotCancellable l
cancel true false l p = accepted_move (with_waiters (without p (waiters l)) l)

-- Give back: does the party hold; does anybody wait? Then the first of them holds.
unfoldable pub release : Bool → Bool → Line → ℕ → Moved
release false w l p = refused_move Refusal.NotHolding l
release true false l p = accepted_move (with_holding (set l.holding p false) l)
release true true l p =
    accepted_move
    (with_waiters (drop 1 (waiters l))
    (with_holding (set (set l.holding p false) (next_waiter l) true) l))

-- 1, then 4, then the operation's own.
unfoldable pub checked_move : Bool → Bool → Line → Moved → Moved
checked_move false b l m = refused_move Refusal.Unfit l
checked_move true false l m = refused_move Refusal.NoSuchParty l
checked_move true true l m = m

unfoldable pub own_move : Line → Operation → ℕ → Moved
own_move l Operation.Acquire p = acquire (not (holds_in l p) && not (waits_in l p)) (has_permit l) l p
own_move l Operation.Cancel p = cancel (waits_in l p) (eqb (kind_in l.kinds p) 3) l p
own_move l Operation.Release p = release (holds_in l p) (has_waiter l) l p

-- What an operation of party p answers, and the line that it leaves.
unfoldable pub line_move : Line → Operation → ℕ → Moved
line_move l o p = checked_move (line_fits l) (ltb p l.parties) l (own_move l o p)

-- Is an answer 20?
abbrev pub is_accepted : Answer → Bool
is_accepted y = eqb (printed y).code 0x20

-- A refused opening makes no line; what stands in its place refuses every operation by 1.
abbrev pub no_line : Line
no_line = opened_line nobody

-- An opening is answered as at the hub.
unfoldable pub line_opening : Opening → Moved
line_opening o =
    record {
      answer = (opening o).answer;
      line = cond (all_passed (tests o)) (opened_line o) no_line;
    }
