-- `apportion` meets its contract: from any turn on the shares of the parties passed are worked out.
use mathlib.Core.Path.{◌≡◌}
use Rattle.billing.specs.Sharing.{up_to}
use Rattle.billing.proofs.Laws.Shares.{handed}
use Rattle.billing.proofs.Terms.apportion.Given as goal

abbrev pub invariant-loop-p : goal.invariant-loop-p
invariant-loop-p l = l.shares ≡ up_to l.p (handed l.portions l.left)
