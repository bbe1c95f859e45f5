-- `bill_shares` meets its contract: where nothing is refused the shares are written.
use mathlib.Core.Path.{sym, ◌∙◌}
use Rattle.billing.proofs.Laws.Answers.{written}
use Rattle.billing.proofs.bill_shares.Goals as goal

pub returns : goal.returns
returns c =
    written _ _ _ _ (sym c.share_fee-answer.ensures ∙ c.in-Ok.is) c.if-shares-n.false c.put_shares.ensures
