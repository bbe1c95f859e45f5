-- `run_calls` meets its contract: its tests, in order, are those of the definition.
use Rattle.std.proofs.Common.{rules, arith, Err, ◌≡◌, sym, ap, ◌∙◌}
use Rattle.hub.specs.Opening.{opened}
use Rattle.encoding.specs.Frame.{is_call}
use Rattle.run.specs.Run.{ran_code, written}
use Rattle.run.specs.declared.RunError.{RunError}
use Rattle.run.proofs.Laws.Endings.{all-written, done, malformed, no_room, reachable, refused}
use Rattle.run.proofs.run_calls.Goals as goal

pub returns-in_err-hub : goal.returns-in_err-hub
returns-in_err-hub c =
    let told : c.from_residual.result ≡ Err (RunError.NotOpened c.in_err-hub.field-0.0) = search rules in
    let e =
    refused is_call 7 written c.args.o c.args.calls.now c.args.out.now _
    (ap opened (sym c.in_err-hub.was) ∙ c.open_hub.ensures.outcome) in
    (ap ran_code told ∙ e.0, e.1)

pub returns-then-not-well_formed : goal.returns-then-not-well_formed
returns-then-not-well_formed c =
    malformed is_call 7 written c.args.o _ _ _ (ap opened (sym c.in_ok-hub.was) ∙ c.open_hub.ensures.outcome)
    (sym (c.well_formed-2.ensures is_call (λ x b e. e)) ∙ c.if-not-well_formed.true)

pub returns-then-out-count : goal.returns-then-out-count
returns-then-out-count c =
    no_room is_call 7 written c.args.o _ _ _ (ap opened (sym c.in_ok-hub.was) ∙ c.open_hub.ensures.outcome)
    (sym (c.well_formed-2.ensures is_call (λ x b e. e)) ∙ c.if-not-well_formed.false) c.if-out-count.true

pub answer_requests-requires : goal.answer_requests-requires
answer_requests-requires c =
    record {
      reachable = reachable c.args.o _ (ap opened (sym c.in_ok-hub.was) ∙ c.open_hub.ensures.outcome);
      count_in_bounds = omega arith;
      count_in_bounds_2 = omega (arith, c.if-out-count.false);
    }

pub returns : goal.returns
returns c =
    let e = ap opened (sym c.in_ok-hub.was) ∙ c.open_hub.ensures.outcome in
    let w = sym (c.well_formed-2.ensures is_call (λ x b e. e)) ∙ c.if-not-well_formed.false in
    done is_call 7 written c.args.o _ _ _ e _ w c.if-out-count.false
    (c.answer_requests.ensures.1 ∙ all-written c.args.o _ e _ _ w)
