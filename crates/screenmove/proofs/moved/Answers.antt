-- `moved` meets its contract: 1, 4, then the operation's own.
use Rattle.std.proofs.Common.{sym, ap, ◌∙◌}
use Rattle.screen.specs.declared.record.Operation.{Operation}
use Rattle.screen.specs.Moves.{line_move}
use Rattle.screen.proofs.Laws.Answers.{no-party, own, unfit}
use Rattle.screenmove.proofs.moved.Goals as goal

pub returns-then-not-line_fits : goal.returns-then-not-line_fits
returns-then-not-line_fits c = sym (unfit _ _ _ (sym c.line_fits.ensures ∙ c.if-not-line_fits.true))

pub returns-then-line-party : goal.returns-then-line-party
returns-then-line-party c =
    sym (no-party _ _ _ (sym c.line_fits.ensures ∙ c.if-not-line_fits.false) c.if-line-party.true)

pub returns-in-Acquire : goal.returns-in-Acquire
returns-in-Acquire c =
    c.acquire_on.ensures
    ∙ sym (own _ _ _ (sym c.line_fits.ensures ∙ c.if-not-line_fits.false) c.if-line-party.false)
    ∙ ap (λ (o : Operation). line_move c.args.line.now o c.args.party) (sym c.in-Acquire.is)

pub returns-in-Cancel : goal.returns-in-Cancel
returns-in-Cancel c =
    c.cancel_on.ensures
    ∙ sym (own _ _ _ (sym c.line_fits.ensures ∙ c.if-not-line_fits.false) c.if-line-party.false)
    ∙ ap (λ (o : Operation). line_move c.args.line.now o c.args.party) (sym c.in-Cancel.is)

pub returns-in-Release : goal.returns-in-Release
returns-in-Release c =
    c.release_on.ensures
    ∙ sym (own _ _ _ (sym c.line_fits.ensures ∙ c.if-not-line_fits.false) c.if-line-party.false)
    ∙ ap (λ (o : Operation). line_move c.args.line.now o c.args.party) (sym c.in-Release.is)
