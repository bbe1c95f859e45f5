-- `row_fits` meets its contract: what is left of the row says what the whole row says.
use mathlib.Core.Path.{◌≡◌, sym, ap, ◌∙◌}
use native.Mathlib.Omega.{arith}
use Prim.Native.Nat.{ℕ, ◌+◌, ◌-◌}
use Rattle.hub.specs.declared.record.Place.{Place}
use Rattle.hub.specs.Basics.{all_from}
use Rattle.clauses.specs.Window.{ticket_at, waiter_fits}
use Rattle.clauses.proofs.Laws.Bools.{failed, passed}
use Rattle.clauses.proofs.Laws.Ranges.{no-clause, nobody-waits, none_left, one-fails, one_passes}
use Rattle.clauses.proofs.row_fits.Goals as goal

pub returns-then-nobody_waits : goal.returns-then-nobody_waits
returns-then-nobody_waits g c =
    let a = c.args in
    let fits = λ (i : ℕ) (p : Place). waiter_fits g.S.Slot.phase_of g.S.Slot.nobody a.slots.now (ticket_at a.oldest i) p in
    sym (nobody-waits a.places.now a.first fits (omega (arith, c.told-places, c.requires)) (λ i p e. no-clause _ p e)
    (sym c.nobody_waits.ensures ∙ c.if-nobody_waits.true))

pub loop-i-init : goal.loop-i-init
loop-i-init g c =
    let z : c.args.first + 8 - c.args.first ≡ 8 = omega arith in
    ap (all_from _ c.args.first) (sym z)

pub returns-then-not-waiter_fits : goal.returns-then-not-waiter_fits
returns-then-not-waiter_fits g c =
    one-fails _ _ _ _ c.loop-i.invariant c.loop-i-test.true (failed (rw c.ticket_at.ensures at c.waiter_fits.ensures) c.if-not-waiter_fits.true-raw)

pub loop-i-preserved : goal.loop-i-preserved
loop-i-preserved g c =
    one_passes _ _ _ _ c.loop-i.invariant c.loop-i-test.true (passed (rw c.ticket_at.ensures at c.waiter_fits.ensures) c.if-not-waiter_fits.false-raw)

pub returns : goal.returns
returns g c = none_left _ _ _ _ c.loop-i.invariant c.loop-i-test.false
