-- `operate` meets its contract: the call, and then the steps of its party, if the call is not refused.
use native.Mathlib.Omega.{arith}
use mathlib.Core.Path.{◌≡◌, refl, sym, ap, ◌∙◌}
use Prim.Native.Nat.{ℕ, ◌+◌}
use Rattle.hub.specs.declared.answers.Answer.{Answer}
use Rattle.operations.specs.declared.Operated.{Operated}
use Rattle.torest.proofs.Laws.{begin, go_on, at_rest_lem, all_made, first_of, operated-refused, operated-walked, with-printed}
use Rattle.torest.proofs.operate.Goals as goal

pub returns-then-turns_down : goal.returns-then-turns_down
returns-then-turns_down c =
    with-printed
    (operated-refused c.args.hub _ c.call-first.result c.call-first.ensures.0 _
    (sym c.turns_down.ensures ∙ c.if-turns_down.true) c.woken_by.ensures)

pub loop-init : goal.loop-init
loop-init c = (refl, begin _ _ _, refl)

pub loop-preserved : goal.loop-preserved
loop-preserved c =
    let l = c.loop in (
      l.invariant.0,
      go_on _ _ _ l.done.woken l.done.steps l.done.hub l.invariant.1 c.step-next.result _
          (omega (arith, l.invariant.2, c.loop-test.true)) (sym c.rests.ensures ∙ c.if-rests.false)
          c.step-next.ensures.0
          (c.first_of.ensures ∙ ap (λ (v : ℕ). first_of l.done.woken v) c.woken_by-in-loop.ensures),
      ap (λ (n : ℕ). n + 1) l.invariant.2,
    )

-- What is left when the steps end is told, for the answer of the call.
told : (o : Answer) (done d : Operated) → done.answer ≡ o
    → record { answer = o; woken = done.woken; steps = done.steps; hub = done.hub } ≡ d → done ≡ d
told o done d e f =
    ap (λ (a : Answer). record { answer = a; woken = done.woken; steps = done.steps; hub = done.hub }) e ∙ f

pub returns-after-loop : goal.returns-after-loop
returns-after-loop c =
    let l = c.loop.done in
    with-printed
    (told c.call-first.result.answer l _ c.loop.invariant.0
    (operated-walked c.args.hub _ c.call-first.result c.call-first.ensures.0 c.woken_by.result l.woken l.steps l.hub
    (sym c.turns_down.ensures ∙ c.if-turns_down.false) c.woken_by.ensures
    (all_made _ _ _ l.woken l.steps l.hub c.loop.invariant.1 (omega (arith, c.loop.invariant.2, c.loop-test.false)))))

pub returns-then-rests : goal.returns-then-rests
returns-then-rests c =
    let l = c.loop.done in
    with-printed
    (told c.call-first.result.answer l _ c.loop.invariant.0
    (operated-walked c.args.hub _ c.call-first.result c.call-first.ensures.0 c.woken_by.result l.woken l.steps l.hub
    (sym c.turns_down.ensures ∙ c.if-turns_down.false) c.woken_by.ensures
    (at_rest_lem _ _ _ l.woken l.steps l.hub c.loop.invariant.1 (sym c.rests.ensures ∙ c.if-rests.true))))
