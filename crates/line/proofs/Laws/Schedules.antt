-- On an open record calls are answered as their schedule is.
use mathlib.Core.Path.{◌≡◌, refl, ap, ◌∙◌}
use mathlib.Core.Bool.{true, false}
use mathlib.Core.List.{List, [], ◌∷◌, map}
use lib.Dec.{leb}
use Rattle.hub.specs.declared.answers.Answer.{Answer}
use Rattle.hub.specs.declared.answers.Refusal.{Refusal}
use Rattle.hub.specs.declared.moves.Call.{Call}
use Rattle.hub.specs.declared.opening.Opening.{Opening}
use Rattle.hub.specs.declared.record.Hub.{Hub}
use Rattle.hub.specs.Calls.{move_of, called}
use Rattle.hub.specs.Look.{look}
use Rattle.hub.specs.Opening.{not_opened}
use Rattle.hub.specs.Schedule.{entries, run}
use Rattle.hub.proofs.Laws.Bools.{if-true, if-false}
use Rattle.hub.proofs.Laws.Opening.{kept-opening, never-opened}
use Rattle.line.specs.Program.{is_open, Reply, Response, when_open, before_open, respond}
use Rattle.line.specs.Program.{reply_of, replies, after, unopened}
use Rattle.line.specs.Requests.{Request, malformed, to_open, to_call}

-- The record before an opening is that of every opening that is refused, and it refuses every call by 1.
pub no-record : (r : Refusal) → (not_opened r).hub ≡ unopened
no-record r = refl

pub unopened-refuses : (c : Call) → called unopened c ≡ record { answer = Answer.Refused Refusal.Unfit; hub = unopened }
unopened-refuses c = never-opened Refusal.Unfit c

-- A request on a hub that is open, or not.
pub respond-open : (h : Hub) (r : Request) → is_open h ≡ true → respond h r ≡ when_open h r
unfolding respond
respond-open h r o = if-true (is_open h) (when_open h r) (before_open r) o

pub respond-before : (h : Hub) (r : Request) → is_open h ≡ false → respond h r ≡ before_open r
unfolding respond
respond-before h r o = if-false (is_open h) (when_open h r) (before_open r) o

pub still_open : (h : Hub) (r : Request) → is_open h ≡ true → is_open (when_open h r).hub ≡ true
unfolding when_open
still_open h malformed o = o
still_open h (to_open p) o = o
still_open h (to_call c) o =
    ap (λ (o : Opening). leb 1 o.permits) (kept-opening h (look h c.party) (move_of h c)) ∙ o

pub schedule-replies : (cs : List Call) (h : Hub) → is_open h ≡ true
    → replies h (map to_call cs) ≡ map reply_of (entries h cs)
unfolding replies entries when_open
schedule-replies [] h o = refl
schedule-replies (c ∷ cs) h o =
    (λ i. let t = respond-open h (to_call c) o i in t.reply ∷ replies t.hub (map to_call cs))
    ∙ ap (λ (l : List Reply). (when_open h (to_call c)).reply ∷ l)
    (schedule-replies cs (called h c).hub (still_open h (to_call c) o))

pub schedule-after : (cs : List Call) (h : Hub) → is_open h ≡ true
    → after h (map to_call cs) ≡ run h cs
unfolding after run when_open
schedule-after [] h o = refl
schedule-after (c ∷ cs) h o =
    ap (λ (t : Response). after t.hub (map to_call cs)) (respond-open h (to_call c) o)
    ∙ schedule-after cs (called h c).hub (still_open h (to_call c) o)
