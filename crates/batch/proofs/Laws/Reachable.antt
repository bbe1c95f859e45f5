-- A record that is reached from an opening fits, and every response leaves such a one.
use mathlib.Core.Path.{◌≡◌, refl, sym, ap, ◌∙◌, subst}
use mathlib.Core.Bool.{true}
use mathlib.Core.List.{List, [], ◌∷◌, ◌++◌}
use borrow.Author.Tests.{le-leb}
use Rattle.hub.specs.declared.answers.Answer.{Answer}
use Rattle.hub.specs.declared.moves.Call.{Call}
use Rattle.hub.specs.declared.opening.Opening.{Opening}
use Rattle.hub.specs.declared.record.Hub.{Hub}
use Rattle.hub.specs.Calls.{called}
use Rattle.hub.specs.Demand3.{ReachedFits}
use Rattle.hub.specs.Fits.{fits}
use Rattle.hub.specs.Opening.{opening}
use Rattle.hub.specs.Schedule.{run}
use Rattle.hub.proofs.Demand3.{every-record-fits}
use Rattle.line.specs.Program.{is_open, Response, when_open, respond}
use Rattle.line.specs.Requests.{Request, malformed, to_open, to_call}
use Rattle.line.proofs.Laws.Schedules.{respond-open}
use Rattle.transition.proofs.Laws.Called.{counted}
use Rattle.batch.specs.Batch.{Reachable}

pub reachable-fits : (h : Hub) → Reachable h → fits h ≡ true
unfolding ReachedFits
reachable-fits h r =
    ap fits r.same
    ∙ every-record-fits r.from r.accepted r.calls

pub reachable-open : (h : Hub) → Reachable h → is_open h ≡ true
reachable-open h r =
    le-leb 1 h.control.opening.permits (counted h (reachable-fits h r)).permits.0

-- An opening, and one response more.
pub opening-reachable : (o : Opening) → (opening o).answer ≡ Answer.Opened
    → Reachable (opening o).hub
unfolding run
opening-reachable o e = record { from = o; calls = []; accepted = e; same = refl }

run_more : (h : Hub) (cs : List Call) (c : Call)
    → (called (run h cs) c).hub ≡ run h (cs ++ (c ∷ []))
unfolding run
run_more h [] c = refl
run_more h (d ∷ cs) c = run_more (called h d).hub cs c

one_more : (h : Hub) → Reachable h → (c : Call) → Reachable (called h c).hub
one_more h r c =
    record {
      from = r.from;
      calls = r.calls ++ (c ∷ []);
      accepted = r.accepted;
      same =
          ap (λ (g : Hub). (called g c).hub) r.same
          ∙ run_more (opening r.from).hub r.calls c;
    }

when-open : (h : Hub) (q : Request) → Reachable h → Reachable (when_open h q).hub
unfolding when_open
when-open h malformed r = r
when-open h (to_open o) r = r
when-open h (to_call c) r = one_more h r c

pub response-reachable : (h : Hub) (q : Request) → Reachable h → Reachable (respond h q).hub
response-reachable h q r =
    subst (λ (a : Response). Reachable a.hub) (sym (respond-open h q (reachable-open h r)))
    (when-open h q r)
