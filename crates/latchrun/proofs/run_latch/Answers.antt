-- `run_latch` meets its contract: its tests, in order, are those of the definition.
use Rattle.std.proofs.Common.{rules, Err, ◌≡◌, sym, ◌∙◌}
use Rattle.latchrun.specs.Bytes.{is_call}
use Rattle.latchrun.specs.declared.LatchRunError.{LatchRunError}
use Rattle.latchrun.proofs.Laws.Endings.{refused, malformed, no_room, lasting, done}
use Rattle.latchrun.proofs.run_latch.Goals as goal

pub returns-in_err-latch : goal.returns-in_err-latch
returns-in_err-latch c =
    let a = c.args in
    let told : c.from_residual.result ≡ Err (LatchRunError.NotOpened c.in_err-latch.field-0.0) = search rules in
    let e = refused a.count a.parties a.calls.now a.out.now _ (sym c.in_err-latch.was ∙ c.open_latch.ensures.value) in
    (told ∙ e.0, e.1)

pub returns-then-not-well_formed : goal.returns-then-not-well_formed
returns-then-not-well_formed c =
    let a = c.args in
    malformed a.count a.parties _ _ _ (sym c.in_ok-latch.was ∙ c.open_latch.ensures.value)
    (sym (c.well_formed-2.ensures is_call (λ x b e. e)) ∙ c.if-not-well_formed.true)

pub returns-then-out-total : goal.returns-then-out-total
returns-then-out-total c =
    let a = c.args in
    no_room a.count a.parties _ _ _ (sym c.in_ok-latch.was ∙ c.open_latch.ensures.value)
    (sym (c.well_formed-2.ensures is_call (λ x b e. e)) ∙ c.if-not-well_formed.false) c.if-out-total.true

pub answer_calls-requires-clause-lasting : goal.answer_calls-requires-clause-lasting
answer_calls-requires-clause-lasting c =
    let a = c.args in
    lasting a.count a.parties a.calls.now a.out.now _ (sym c.in_ok-latch.was ∙ c.open_latch.ensures.value)

pub returns : goal.returns
returns c =
    let a = c.args in
    done a.count a.parties _ _ _ (sym c.in_ok-latch.was ∙ c.open_latch.ensures.value) _
    (sym (c.well_formed-2.ensures is_call (λ x b e. e)) ∙ c.if-not-well_formed.false) c.if-out-total.false
    c.answer_calls.ensures.1
