-- `share_fee` meets its contract: what passes its tests may be billed.
use Prim.Native.Nat.{ℕ}
use mathlib.Core.List.{List}
use mathlib.Core.Path.{sym, ◌∙◌, subst}
use Rattle.billing.specs.Sharing.{Billable}
use Rattle.billing.proofs.Laws.Answers.{billable}
use Rattle.billing.proofs.share_fee.Goals as goal

pub apportion-requires : goal.apportion-requires
apportion-requires c =
    let a = c.args in
    subst (λ (g : List ℕ). Billable (record { parties = a.parties; fee = a.fee; grants = g }))
    (sym c.count_grants-grants.ensures)
    (billable _ _ _ (sym c.up_to_32.ensures ∙ c.if-not-up_to_32.false) c.if-fee-gt-MOST_CENTS.false
    c.if-lines-gt-MOST_LINES.false)
