-- `open_hub` meets its contract: what an opening is answered says what it makes.
use Rattle.std.proofs.Common.{◌≡◌, Ok, rules, sym, ap, ◌∙◌}
use Rattle.hub.specs.declared.record.Hub.{Hub}
use Rattle.hub.specs.declared.record.Outcome.{Outcome}
use Rattle.hub.specs.Answers.{printed}
use Rattle.hub.specs.Opening.{opened, opening, tests, unless_refused}
use Rattle.hub.proofs.Laws.Opening.{accepted, by_err, by_ok, ends}
use Rattle.openhub.proofs.open_hub.Goals as goal

pub returns-in_err-check_opening-clause-outcome : goal.returns-in_err-check_opening-clause-outcome
returns-in_err-check_opening-clause-outcome c =
    let refused = by_err c.args.o (ends c.args.o (tests c.args.o))
    (sym c.check_opening.ensures.value ∙ c.in_err-check_opening.was) in
    search rules

pub returns : goal.returns
returns c =
    let o = c.args.o in
    let made : accepted o ≡ opening o =
    sym (by_ok o (ends o (tests o)) (sym c.check_opening.ensures.value ∙ c.in_ok-check_opening.was)) in
    let outcome : opened (Ok c.«open».result) ≡ opening o = ap (λ (h : Hub). opened (Ok h)) c.«open».ensures ∙ made in record {
      value = ap Ok c.«open».ensures ∙ ap (λ (x : Outcome). unless_refused x.hub x.answer) made;
      outcome = outcome;
      printed = ap (λ (x : Outcome). printed x.answer) outcome;
    }
