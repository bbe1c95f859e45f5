-- The lines of a schedule are answered as the schedule is.
use mathlib.Core.Path.{◌≡◌, refl, ap, ◌∙◌}
use mathlib.Core.List.{List, [], ◌∷◌, ◌++◌, map}
use Rattle.hub.specs.declared.answers.Answer.{Answer}
use Rattle.hub.specs.declared.moves.Call.{Call}
use Rattle.hub.specs.declared.opening.Opening.{Opening}
use Rattle.hub.specs.Answers.{plain, printed}
use Rattle.hub.specs.Opening.{fresh, opening}
use Rattle.encoding.specs.Form.{as_text}
use Rattle.encoding.specs.Frame.{code_of}
use Rattle.line.specs.Program.{unopened, Reply, before_open, respond}
use Rattle.line.specs.Program.{replies, after, rendered, closing, lines_from, lines_of, output_of}
use Rattle.line.specs.Requests.{to_open, to_call, request_of}
use Rattle.line.proofs.Laws.Schedules.{schedule-replies, schedule-after}
use Rattle.batch.proofs.Laws.Reachable.{reachable-open, opening-reachable}
use Rattle.outputs.specs.Schedule.{call_lines, opening_frame, input_of, PartyBytes}
use Rattle.outputs.specs.Schedule.{PrintsSchedule}
use Rattle.outputs.proofs.Laws.Written.{line_read, call_back, opening-back}

calls-asked : (cs : List Call) → PartyBytes cs
    → map request_of (lines_from [] (call_lines cs)) ≡ map to_call cs
unfolding call_lines PartyBytes lines_from
calls-asked [] b = refl
calls-asked (c ∷ cs) b =
    ap (map request_of) (line_read (code_of c.op ∷ c.party ∷ []) [] (call_lines cs))
    ∙ (λ i. call_back c b.0 i ∷ calls-asked cs b.1 i)

-- The reply to an opening that is accepted.
abbrev opened_reply : Reply
opened_reply = record { party = 0xFF; answer = plain 0x1F }

-- From the opening on.
module _ (o : Opening) (e : (opening o).answer ≡ Answer.Opened) where
  opening-response : respond unopened (to_open o)
      ≡ record { reply = opened_reply; hub = (opening o).hub }
  unfolding respond before_open fresh
  opening-response =
      (λ i. record {
        reply = record { party = 0xFF; answer = printed (e i) };
        hub = (opening o).hub;
      })

pub prints-schedule : PrintsSchedule
unfolding PrintsSchedule output_of replies rendered after
prints-schedule o e ks w cs b =
    let h = (opening o).hub in
    let t = opening-response o e in
    let f = reachable-open h (opening-reachable o e) in
    let asked : map request_of (lines_of (input_of o ks cs)) ≡ to_open o ∷ map to_call cs =
    ap (map request_of) (line_read (opening_frame o ks) [] (call_lines cs))
    ∙ (λ i. opening-back o e ks w i ∷ calls-asked cs b i) in
    (λ i. rendered as_text (replies unopened (asked i)) ++ closing (after unopened (asked i)))
    ∙ (λ i. rendered as_text ((t i).reply ∷ replies (t i).hub (map to_call cs))
    ++ closing (after (t i).hub (map to_call cs)))
    ∙ (λ i. rendered as_text (opened_reply ∷ schedule-replies cs h f i)
    ++ closing (schedule-after cs h f i))
