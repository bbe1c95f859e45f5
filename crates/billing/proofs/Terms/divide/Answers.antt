-- `divide` meets its contract: from any turn on the portions of the parties passed are worked out.
use Prim.Native.Nat.{ℕ, ◌*◌, ◌/◌, ◌%◌, ◌≤◌}
use mathlib.Core.Path.{◌≡◌, sym, ap, ◌∙◌}
use native.Mathlib.Omega.{arith}
use Rattle.billing.specs.Sharing.{granted, weighed, weight, whole, rounded_down, remainder}
use Rattle.billing.proofs.Laws.Shares.{whole-none, whole-some, divided-none}
use Rattle.billing.proofs.Laws.Shares.{exact-most, remainder-most, next-within, divided-next}
use Rattle.billing.proofs.Terms.divide.Goals as goal
use Rattle.billing.proofs.Terms.divide.Goals.{After-weight, then-all-eq0, else-all-eq0}

-- By what the parties are weighed.
whole_is : (c : After-weight) → c.if-all-eq0.whole ≡ whole c.args.self.now
whole_is c =
    let t = c.args.self.now in
    let e = c.total_grants-all.ensures in
    elim c.if-all-eq0.branch [
      | then-all-eq0 w ↦ w.whole-is ∙ sym (whole-none t (sym e ∙ w.if-all-eq0.true))
      | else-all-eq0 w ↦ w.whole-is ∙ e ∙ sym (whole-some t (λ z. w.if-all-eq0.false (e ∙ z)))
    ]

-- What is weighed, at the head of a turn.
weight_is : (c : After-weight) → c.weight.result ≡ weight c.args.self.now c.loop-p.p
weight_is c =
    let t = c.args.self.now in
    c.weight.ensures
    ∙ ap (λ (x : ℕ). weighed x (granted t c.loop-p.p)) c.total_grants-all.ensures

-- What the turn works out.
down_is : (c : After-weight)
    → c.args.self.now.fee * c.weight.result / c.if-all-eq0.whole ≡ rounded_down c.args.self.now c.loop-p.p
down_is c = (λ i. c.args.self.now.fee * weight_is c i / whole_is c i)

rest-is : (c : After-weight)
    → c.args.self.now.fee * c.weight.result % c.if-all-eq0.whole ≡ remainder c.args.self.now c.loop-p.p
rest-is c = (λ i. c.args.self.now.fee * weight_is c i % whole_is c i)

fits : (c : After-weight) → rounded_down c.args.self.now c.loop-p.p ≤ c.loop-p.left
fits c = next-within c.requires c.loop-p.invariant c.loop-p-test.true

pub loop-p-init : goal.loop-p-init
loop-p-init c = divided-none _

pub overflow_mul-exact : goal.overflow_mul-exact
overflow_mul-exact c =
    let at = (goal.at.overflow_mul-exact c).After-weight in
    let p = c.loop-p.p in
    omega (
      arith,
      ap (λ (w : ℕ). c.args.self.now.fee * w) (weight_is at),
      exact-most c.requires p (omega (arith, c.requires.parties)),
    )

pub overflow_cast-down : goal.overflow_cast-down
overflow_cast-down c =
    let at = (goal.at.overflow_cast-down c).After-weight in
    omega (arith, down_is at, fits at, c.loop-p.invariant.left, c.requires.fee)

pub overflow_sub-left : goal.overflow_sub-left
overflow_sub-left c =
    let at = (goal.at.overflow_sub-left c).After-weight in
    omega (arith, down_is at, fits at)

pub overflow_cast-each : goal.overflow_cast-each
overflow_cast-each c =
    let at = (goal.at.overflow_cast-each c).After-weight in
    omega (arith, rest-is at, remainder-most c.requires c.loop-p.p)

pub loop-p-preserved : goal.loop-p-preserved
loop-p-preserved c =
    let at = (goal.at.loop-p-preserved c).After-weight in
    divided-next c.requires c.loop-p.invariant c.loop-p-test.true (down_is at) (rest-is at)
