-- What holds of every bill, of the lines of every schedule, and of the bytes of every run.
use Rattle.std.specs.Prelude.{ℕ, ◌+◌, ◌*◌, ◌/◌, ◌≤◌, ◌<◌, ◌≡◌, Bool, List, [], ◌∷◌, length, map, take}
use Rattle.hub.specs.declared.answers.Answer.{Answer}
use Rattle.hub.specs.declared.moves.Call.{Call}
use Rattle.hub.specs.declared.opening.Opening.{Opening}
use Rattle.hub.specs.Basics.{among, count}
use Rattle.hub.specs.Opening.{opening}
use Rattle.hub.specs.Phases.{holds}
use Rattle.hub.specs.Record.{phases_of}
use Rattle.hub.specs.Schedule.{run}
use Rattle.encoding.specs.Form.{as_bytes}
use Rattle.line.specs.Program.{unopened, Reply, replies, rendered, lines_of}
use Rattle.line.specs.Requests.{request_of, to_open}
use Rattle.run.specs.Bytes.{calls_of}
use Rattle.run.specs.Run.{framed_run}
use Rattle.outputs.specs.Schedule.{Schedule, unstarted, started, replies_of, left_by, schedule_of}
use Rattle.billing.specs.declared.Terms.{Terms}
use Rattle.billing.specs.Counting.{sum, count_below, lines_in, code_at, grants_of}
use Rattle.billing.specs.Sharing.{weight, whole, share}

-- "The shares add up to the fee exactly, and no share differs from its exact portion by a cent or
-- more": fee × weight and share × whole differ by less than the whole.
pub record Fair (t : Terms) : Type 0 where
  pub exact : sum (share t) t.parties ≡ t.fee
  pub below : (p : ℕ) → p < t.parties → t.fee * weight t p < share t p * whole t + whole t
  pub above : (p : ℕ) → p < t.parties → share t p * whole t < t.fee * weight t p + whole t

abbrev pub EveryBill : Type 0
EveryBill = (t : Terms) → 1 ≤ t.parties → Fair t

-- "The links counted are its 26 and 27 lines plus the holders at its end": so much of a schedule
-- and its replies, in bytes.
abbrev pub is_return : ℕ → Bool
is_return code = among (0x26 ∷ 0x27 ∷ []) code

unfoldable pub returns : List ℕ → ℕ
returns l = count_below (λ i. is_return (code_at l i)) (lines_in l)

abbrev pub parties_of : Schedule → ℕ
parties_of unstarted = 0
parties_of (started o cs) = o.parties

abbrev pub Balanced : Schedule → List Reply → Type 0
Balanced s rs =
    let l = rendered as_bytes rs in
    sum (grants_of l) (parties_of s) ≡ returns l + count holds (phases_of (left_by s).slots)

-- Of every schedule from an accepted opening, whichever, with that opening's n.
unfoldable pub EverySchedule : Type 0
EverySchedule =
    (o : Opening) → (opening o).answer ≡ Answer.Opened → (cs : List Call)
    → let s = started o cs in
    Balanced s (replies_of s)

-- And of all that the program prints, whatever it reads.
unfoldable pub EveryOutput : Type 0
EveryOutput =
    (input : List ℕ)
    → let rs = map request_of (lines_of input) in
    Balanced (schedule_of rs) (replies unopened rs)

-- And of the bytes that `hub_run` writes, seven for each call: the run is done, so that its opening was accepted.
unfoldable pub EveryRun : Type 0
EveryRun =
    (o : Opening) (calls out : List ℕ)
    → let e = framed_run (to_open o) calls out in
    e.result ≡ 0
    → let l = take (7 * (length calls / 2)) e.out in
    sum (grants_of l) o.parties
    ≡ returns l + count holds (phases_of (run (opening o).hub (calls_of calls)).slots)
