-- A line fits exactly if its moves reach it.
use Rattle.std.specs.Prelude.{ℕ, ◌≡◌, true, List, [], ◌∷◌, length}
use Rattle.hub.specs.declared.answers.Answer.{Answer}
use Rattle.hub.specs.declared.opening.Opening.{Opening}
use Rattle.hub.specs.Opening.{opening}
use Rattle.hub.specs.Radios.{STORE}
use Rattle.hub.specs.Record.{PARTIES}
use Rattle.screen.specs.declared.record.Line.{Line}
use Rattle.screen.specs.declared.record.Operation.{Operation}
use Rattle.screen.specs.Fits.{line_fits}
use Rattle.screen.specs.Line.{opened_line}
use Rattle.screen.specs.Moves.{line_move}

-- An operation of a party.
pub record DeskRequest : Type 0 where
  pub operation : Operation
  pub party : ℕ

-- The line that a list of them leaves, each on the line that the one before it left, which after a refusal
-- is the old one.
unfoldable pub line_after : Line → List DeskRequest → Line
line_after l [] = l
line_after l (r ∷ rs) = line_after (line_move l r.operation r.party).line rs

-- Values of the types: their arrays have 32 elements.
pub record OpeningArrays (o : Opening) : Type 0 where
  pub radios : length o.radios ≡ STORE
  pub kinds : length o.kinds ≡ PARTIES

pub record IsLine (l : Line) : Type 0 where
  pub kinds : length l.kinds ≡ PARTIES
  pub holding : length l.holding ≡ PARTIES
  pub queue : length l.queue ≡ PARTIES

-- From an opening that is accepted.
pub record LineReached (l : Line) : Type 0 where
  pub start : Opening
  pub arrays : OpeningArrays start
  pub accepted : (opening start).answer ≡ Answer.Opened
  pub requests : List DeskRequest
  pub leads : line_after (opened_line start) requests ≡ l

-- Every line that is reached fits, and every line that fits is reached.
unfoldable pub FitsIfReached : Type 0
FitsIfReached =
    ((l : Line) → LineReached l → line_fits l ≡ true)
    × ((l : Line) → IsLine l → line_fits l ≡ true → LineReached l)
