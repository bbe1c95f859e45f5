-- The claim: whole operations at the hub and at the screen.
use Rattle.std.specs.Prelude.{ℕ, ◌≡◌, Bool, true, false, List, [], ◌∷◌}
use Rattle.hub.specs.declared.answers.Answer.{Answer}
use Rattle.hub.specs.declared.moves.Call.{Call}
use Rattle.hub.specs.declared.opening.Opening.{Opening}
use Rattle.hub.specs.declared.record.Hub.{Hub}
use Rattle.hub.specs.Answers.{printed}
use Rattle.hub.specs.Basics.{among}
use Rattle.hub.specs.Calm.{rests}
use Rattle.hub.specs.Opening.{opening}
use Rattle.operations.specs.declared.Told.{Told}
use Rattle.operations.specs.Operation.{operated, told_of}
use Rattle.screen.specs.declared.record.Line.{Line}
use Rattle.screen.specs.Line.{holders, waiters}
use Rattle.screen.specs.Moves.{call_of, line_move, line_opening}
use Rattle.screen.specs.Reached.{DeskRequest, line_after}
use Rattle.screen.specs.Steps.{steps_to_rest, woken_by}
use Rattle.shown.specs.Parties.{holders_of, waiters_of}

-- The hub's call by which a clerk's request begins there.
abbrev pub call_for : DeskRequest → Call
call_for r = call_of r.operation r.party

-- At the hub, each operation run to rest on the record that the one before it left: the last record, and what
-- each of them came to.
unfoldable pub hub_after : Hub → List DeskRequest → Hub
hub_after h [] = h
hub_after h (r ∷ rs) = hub_after (operated h (call_for r)).hub rs

unfoldable pub hub_told : Hub → List DeskRequest → List Told
hub_told h [] = []
hub_told h (r ∷ rs) =
    let x = operated h (call_for r) in
    told_of x ∷ hub_told x.hub rs

-- What the screen tells of each, from its line alone; `line_after` is the line that they leave.
unfoldable pub line_told : Line → List DeskRequest → List Told
line_told l [] = []
line_told l (r ∷ rs) =
    let o = r.operation in
    let p = r.party in
    record { answer = (line_move l o p).answer; woken = woken_by l o p; steps = steps_to_rest l o p }
    ∷ line_told (line_move l o p).line rs

-- No ask meets 6 or 7.
abbrev pub is_six_or_seven : Answer → Bool
is_six_or_seven y = among (6 ∷ 7 ∷ []) (printed y).code

unfoldable pub NoSixOrSeven : List Told → Type 0
NoSixOrSeven [] = Unit {0}
NoSixOrSeven (x ∷ xs) = (is_six_or_seven x.answer ≡ false) × NoSixOrSeven xs

-- After these operations the hub h and the line l, both just opened, show the same.
pub record Alike (h : Hub) (l : Line) (rs : List DeskRequest) : Type 0 where
  pub holders : holders_of (hub_after h rs) ≡ holders (line_after l rs)
  pub waiters : waiters_of (hub_after h rs) ≡ waiters (line_after l rs)
  pub told : hub_told h rs ≡ line_told l rs
  -- The screen goes by the hub's kinds.
  pub kinds : (hub_after h rs).control.opening.kinds ≡ (line_after l rs).kinds
  -- Nobody is busy.
  pub at_rest : (p : ℕ) → rests (hub_after h rs) p ≡ true

-- For every opening that is accepted, with radios or without, with a house's own kinds or without, and every list
-- of operations.
unfoldable pub ScreenShows : Type 0
ScreenShows =
    (o : Opening) → (opening o).answer ≡ Answer.Opened → (rs : List DeskRequest)
    → let h = (opening o).hub in
    NoSixOrSeven (hub_told h rs) → Alike h (line_opening o).line rs
