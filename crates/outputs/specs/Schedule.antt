-- What the program prints, and the schedules that the third demand speaks of.
use Rattle.std.specs.Prelude.{ℕ, ◌<◌, ◌≡◌, Bool, cond, List, [], ◌∷◌, ◌++◌, map}
use Rattle.hub.specs.declared.answers.Answer.{Answer}
use Rattle.hub.specs.declared.moves.Call.{Call}
use Rattle.hub.specs.declared.opening.Opening.{Opening}
use Rattle.hub.specs.declared.record.Hub.{Hub}
use Rattle.hub.specs.Answers.{plain}
use Rattle.hub.specs.Basics.{among}
use Rattle.hub.specs.Demand3.{Accounts, AllBelow}
use Rattle.hub.specs.Ledger.{ledger, opened}
use Rattle.hub.specs.Opening.{opening, sized, with_radios}
use Rattle.hub.specs.Radios.{radios_of}
use Rattle.hub.specs.Schedule.{entries, run}
use Rattle.encoding.specs.Form.{as_text}
use Rattle.encoding.specs.Frame.{code_of}
use Rattle.encoding.specs.Hex.{text_of}
use Rattle.line.specs.Program.{unopened, is_open, Reply, reply_of, replies, rendered}
use Rattle.line.specs.Program.{closing, lines_of, output_of}
use Rattle.line.specs.Requests.{Request, malformed, to_open, to_call, given_kinds, request_of}

-- No hub is opened, or one is and calls follow.
pub data Schedule : Type 0 where
  unstarted : Schedule
  started : Opening → List Call → Schedule

-- Its replies: 1F, and then line for line the entries that the ledger of the third demand counts by.
abbrev pub replies_of : Schedule → List Reply
replies_of unstarted = []
replies_of (started o cs) =
    record { party = 0xFF; answer = plain 0x1F } ∷ map reply_of (entries (opening o).hub cs)

-- The record that it leaves.
abbrev pub left_by : Schedule → Hub
left_by unstarted = unopened
left_by (started o cs) = run (opening o).hub cs

-- Its opening is accepted, and the third demand holds of it.
abbrev pub Holds : Schedule → Type 0
Holds unstarted = Unit {0}
Holds (started o cs) =
    ((opening o).answer ≡ Answer.Opened)
    × Accounts o.permits (ledger (opened o) (entries (opening o).hub cs))
    (left_by (started o cs))

-- The schedule that is asked for: the first opening that is accepted, and the calls behind it.
unfoldable pub calls_in : List Request → List Call
calls_in [] = []
calls_in (malformed ∷ rs) = calls_in rs
calls_in (to_open o ∷ rs) = calls_in rs
calls_in (to_call c ∷ rs) = c ∷ calls_in rs

unfoldable pub schedule_of : List Request → Schedule
schedule_of [] = unstarted
schedule_of (malformed ∷ rs) = schedule_of rs
schedule_of (to_open o ∷ rs) =
    cond (is_open (opening o).hub) (started o (calls_in rs)) (schedule_of rs)
schedule_of (to_call c ∷ rs) = schedule_of rs

-- The replies but for 12, 13 and refused openings, which are 2, 3 and 14 to 17.
abbrev pub left_out_codes : List ℕ
left_out_codes = 2 ∷ 3 ∷ 12 ∷ 13 ∷ 14 ∷ 15 ∷ 16 ∷ 17 ∷ []

abbrev pub left_out : ℕ → Bool
left_out code = among left_out_codes code

unfoldable pub kept : List Reply → List Reply
kept [] = []
kept (r ∷ rs) = cond (left_out r.answer.code) (kept rs) (r ∷ kept rs)

-- Every input at all, well formed or not: the lines that are printed are some replies, of which
-- those that are kept are the schedule's; and the closing line is that of the record that it leaves.
unfoldable pub EveryInput : Type 0
EveryInput =
    (input : List ℕ)
    → let rs = map request_of (lines_of input) in
    let s = schedule_of rs in
    (output_of input ≡ rendered as_text (replies unopened rs) ++ closing (left_by s))
    × (kept (replies unopened rs) ≡ replies_of s)
    × Holds s

-- A schedule as an input: a line for the opening, and one for each call.
unfoldable pub call_lines : List Call → List ℕ
call_lines [] = []
call_lines (c ∷ cs) = text_of (code_of c.op ∷ c.party ∷ []) ++ call_lines cs

-- The frame of an opening, followed by kinds, if any.
abbrev pub opening_frame : Opening → List ℕ → List ℕ
opening_frame o ks =
    cond o.named (0x02 ∷ o.permits ∷ o.parties ∷ radios_of o ++ ks) (0x01 ∷ o.permits ∷ o.parties ∷ ks)

abbrev pub input_of : Opening → List ℕ → List Call → List ℕ
input_of o ks cs = text_of (opening_frame o ks) ++ call_lines cs

-- A party is one byte of a line.
unfoldable pub PartyBytes : List Call → Type 0
PartyBytes [] = Unit {0}
PartyBytes (c ∷ cs) = (c.party < 256) × PartyBytes cs

-- An opening that a line with these kinds can spell: its radios are bytes, and it keeps nothing but what its
-- frame has.
abbrev pub Spelled : Opening → List ℕ → Type 0
Spelled o ks =
    let k = o.permits in
    let n = o.parties in
    AllBelow 256 (radios_of o)
    × (given_kinds ks (cond o.named (with_radios k n (radios_of o)) (sized k n)) ≡ o)

-- For an accepted opening, its kinds given or not, and any calls after it nothing else is printed.
unfoldable pub PrintsSchedule : Type 0
PrintsSchedule =
    (o : Opening) → (opening o).answer ≡ Answer.Opened → (ks : List ℕ) → Spelled o ks
    → (cs : List Call) → PartyBytes cs
    → let s = started o cs in
    output_of (input_of o ks cs) ≡ rendered as_text (replies_of s) ++ closing (left_by s)
