-- "Giving up early": a second give-up in the same ask, and a link that comes first. Both of every record.
use Rattle.std.specs.Prelude.{ℕ, ◌≡◌, true, false, List, [], ◌∷◌, ◌≢◌}
use Rattle.hub.specs.declared.answers.Answer.{Answer}
use Rattle.hub.specs.declared.answers.Refusal.{Refusal}
use Rattle.hub.specs.declared.moves.Call.{Call}
use Rattle.hub.specs.declared.moves.Op.{Op}
use Rattle.hub.specs.declared.record.Hub.{Hub}
use Rattle.hub.specs.Answers.{printed}
use Rattle.hub.specs.Basics.{among}
use Rattle.hub.specs.Calls.{called}
use Rattle.hub.specs.Fits.{fits}
use Rattle.hub.specs.Phases.{holds, is_marked}
use Rattle.hub.specs.Record.{read_slot}
use Rattle.hub.specs.Schedule.{Entry, entries, run}

-- A call of party p.
abbrev pub call_by : Op → ℕ → Call
call_by o p = record { op = o; party = p }

-- No ask of p begins in a list of calls and their answers: it is all one ask.
unfoldable pub SameAsk : ℕ → List Entry → Type 0
SameAsk p [] = Unit {0}
SameAsk p (x ∷ xs) = (x.call ≡ call_by Op.Acquire p → x.answer.code ≢ 0x20) × SameAsk p xs

-- A second give-up in the same ask answers 9: after one that was accepted, early or not, whatever calls come between.
-- A record that does not fit answers 1; none that an opening leads to does.
unfoldable pub SecondCancel : Type 0
SecondCancel =
    (h : Hub) (p : ℕ) → (called h (call_by Op.Cancel p)).answer ≡ Answer.Accepted
    → let h₁ = (called h (call_by Op.Cancel p)).hub in
    (cs : List Call) → SameAsk p (entries h₁ cs)
    → let h₂ = run h₁ cs in
    fits h₂ ≡ true → (called h₂ (call_by Op.Cancel p)).answer ≡ Answer.Refused Refusal.NotWaiting

-- A link got first (21, 25) is held, and the mark is forgotten.
unfoldable pub ForgetsMark : Type 0
ForgetsMark =
    (h : Hub) (p : ℕ) → among (0x21 ∷ 0x25 ∷ []) (printed (called h (call_by Op.Step p)).answer).code ≡ true
    → let f = (read_slot (called h (call_by Op.Step p)).hub.slots p).phase in
    (holds f ≡ true) × (is_marked f ≡ false)
