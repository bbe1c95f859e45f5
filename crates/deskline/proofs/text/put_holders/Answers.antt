-- `put_holders` meets its contract: those written and those still to come are all that hold.
use Rattle.std.proofs.Common.{rules, arith, ◌∙◌}
use Rattle.screen.specs.Line.{holders}
use Rattle.screen.proofs.Laws.Holders.{next-free, next-holds}
use Rattle.deskline.proofs.Laws.Numbers.{listed-all, listed-none, listed-one, listed-skip, none_left}
use Rattle.deskline.proofs.text.put_holders.Goals as goal
use Rattle.deskline.proofs.text.put_holders.Goals.{then-holds, else-holds}

pub loop-party-init : goal.loop-party-init
loop-party-init c = listed-none _ _ _ (search rules)

pub loop-party-preserved : goal.loop-party-preserved
loop-party-preserved c =
    elim c.if-holds.branch [
      | then-holds w ↦
          listed-one c.loop-party.invariant (omega arith) (next-holds _ _ (search rules) w.if-holds.true)
          (w.end-is ∙ w.put_number-end.ensures.0) (w.out-is ∙ w.put_number-end.ensures.1)
      | else-holds w ↦
          listed-skip c.loop-party.invariant (omega arith) (next-free _ _ (search rules) w.if-holds.false) w.end-is w.out-is
    ]

pub returns-clause-value : goal.returns-clause-value
unfolding holders
returns-clause-value c = listed-all c.loop-party.invariant (none_left _ _ (search rules) (omega arith))
