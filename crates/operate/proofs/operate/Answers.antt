-- `operate` meets its contract: its tests, in order, are those of the definition.
use Rattle.std.proofs.Common.{rules, arith, Err, Ok, ◌≡◌, sym, ap, ◌∙◌}
use Rattle.hub.specs.Opening.{opened}
use Rattle.perform.specs.Bytes.{answers_written, is_operation_code}
use Rattle.run.specs.Run.{ran_code}
use Rattle.run.specs.declared.RunError.{RunError}
use Rattle.run.proofs.Laws.Endings.{done, malformed, no_room, refused}
use Rattle.line.proofs.Laws.Openings.{asked-back}
use Rattle.operate.proofs.Laws.Endings.{of-opening, opened-rests}
use Rattle.operate.proofs.operate.Goals as goal

pub returns-in_err-hub : goal.returns-in_err-hub
returns-in_err-hub c =
    let told : c.from_residual.result ≡ Err (RunError.NotOpened c.in_err-hub.field-0.0) = search rules in
    let e =
    of-opening (Err (RunError.NotOpened c.in_err-hub.field-0.0)) _ _ _ _ (asked-back _ _ (sym c.in-Some.is ∙ c.read_frame.ensures))
    (refused is_operation_code 3 answers_written c.in-Some.o c.args.operations.now c.args.out.now _
    (ap opened (sym c.in_err-hub.was) ∙ c.open_hub.ensures.outcome)) in
    (ap ran_code told ∙ e.0, e.1)

pub returns-then-not-well_formed : goal.returns-then-not-well_formed
returns-then-not-well_formed c =
    of-opening (Err RunError.Malformed) _ _ _ _ (asked-back _ _ (sym c.in-Some.is ∙ c.read_frame.ensures))
    (malformed is_operation_code 3 answers_written c.in-Some.o _ _ _
    (ap opened (sym c.in_ok-hub.was) ∙ c.open_hub.ensures.outcome)
    (sym (c.well_formed-2.ensures is_operation_code (λ x b e. e)) ∙ c.if-not-well_formed.true))

pub returns-then-out-operations : goal.returns-then-out-operations
returns-then-out-operations c =
    of-opening (Err RunError.NoRoom) _ _ _ _ (asked-back _ _ (sym c.in-Some.is ∙ c.read_frame.ensures))
    (no_room is_operation_code 3 answers_written c.in-Some.o _ _ _
    (ap opened (sym c.in_ok-hub.was) ∙ c.open_hub.ensures.outcome)
    (sym (c.well_formed-2.ensures is_operation_code (λ x b e. e)) ∙ c.if-not-well_formed.false) c.if-out-operations.true)

pub perform_operations-requires : goal.perform_operations-requires
perform_operations-requires c =
    record {
      rested = opened-rests c.in-Some.o _ (ap opened (sym c.in_ok-hub.was) ∙ c.open_hub.ensures.outcome);
      operations_value =
          sym (c.well_formed-2.ensures is_operation_code (λ x b e. e)) ∙ c.if-not-well_formed.false;
      operations_in_bounds = omega (arith, c.if-out-operations.false);
    }

pub returns : goal.returns
returns c =
    of-opening (Ok tt) _ _ _ _ (asked-back _ _ (sym c.in-Some.is ∙ c.read_frame.ensures))
    (done is_operation_code 3 answers_written c.in-Some.o _ _ _
    (ap opened (sym c.in_ok-hub.was) ∙ c.open_hub.ensures.outcome) _
    (sym (c.well_formed-2.ensures is_operation_code (λ x b e. e)) ∙ c.if-not-well_formed.false) c.if-out-operations.false
    c.perform_operations.ensures)
