-- What is decided: an ask alone looks at whether there is room, the tidying has at most 256 turns, and whoever is
-- woken has a number of one byte.
use Prim.Native.Nat.{ℕ, ◌≤◌}
use mathlib.Core.Path.{◌≡◌, refl}
use mathlib.Core.Bool.{Bool, true, false, cond}
use native.Mathlib.Omega.{arith}
use lib.Dec.{eqb, leb}
use Rattle.hub.specs.declared.moves.Op.{Op}
use Rattle.hub.specs.Phases.{by_waiter, is_free, is_holding, is_waiting}
use Rattle.hub.specs.Record.{MAX_BEGUN}
use Rattle.hub.specs.Table.{above_zero, below_zero}
use Rattle.transition.specs.Room.{full_for}
use Rattle.plan.specs.declared.Plan.{Plan}
use Rattle.plan.specs.declared.Seen.{Seen}
use Rattle.plan.specs.Plan.{by_code, operation_of, plan_acquire, plan_cancel, plan_of, plan_release}

-- What holds of the three plans holds of the one that the code chooses.
by_code_lem : {A : Type 0} (P : A → Type 0) {a b d : A} → P a → P b → P d → (c : ℕ) → P (by_code a b d c)
by_code_lem P {a} {b} {d} x y z c = go (eqb c 0x10) (eqb c 0x12)
  where
    go : (e f : Bool) → P (cond e a (cond f b d))
    go true f = x
    go false true = y
    go false false = z

pub as-asked : (c : ℕ) (full : Bool) (s : Seen) → plan_of c (full_for (operation_of c) full) s ≡ plan_of c full s
as-asked c full s = go (eqb c 0x10) (eqb c 0x12)
  where
    ask : Bool → Plan
    ask f =
        plan_acquire (is_free s.slot.phase) (leb MAX_BEGUN s.figures.begun) f
        (above_zero s.figures.counter) s

    go : (a b : Bool)
        → cond a (ask (full_for (cond a Op.Acquire (cond b Op.Cancel Op.Release)) full))
        (cond b (plan_cancel (is_waiting s.slot.phase) (eqb s.kind 3) s)
        (plan_release (is_holding s.slot.phase) (below_zero s.figures.counter) s))
        ≡ cond a (ask full)
        (cond b (plan_cancel (is_waiting s.slot.phase) (eqb s.kind 3) s)
        (plan_release (is_holding s.slot.phase) (below_zero s.figures.counter) s))
    go true b = refl
    go false b = refl

module _ (s : Seen) where
  few-asked : (a b f z : Bool) → (plan_acquire a b f z s).turns ≤ 256
  unfolding plan_acquire
  few-asked false b f z = omega arith
  few-asked true true f z = omega arith
  few-asked true false true z = omega arith
  few-asked true false false true = omega arith
  few-asked true false false false = omega arith

  few-cancelled : (a k : Bool) → (plan_cancel a k s).turns ≤ 256
  unfolding plan_cancel
  few-cancelled false k = omega arith
  few-cancelled true true = omega arith
  few-cancelled true false = omega arith

  few-released : (a z : Bool) → (plan_release a z s).turns ≤ 256
  unfolding plan_release
  few-released false z = omega arith
  few-released true true = omega arith
  few-released true false = omega arith

  pub few-turns : (c : ℕ) (full : Bool) → (plan_of c full s).turns ≤ 256
  few-turns c full =
      by_code_lem (λ (e : Plan). e.turns ≤ 256) (few-asked _ _ _ _) (few-cancelled _ _) (few-released _ _) c

  -- Nobody is woken, or the party that waits at the place.
  pub asked-woken : (a b f z : Bool) → (plan_acquire a b f z s).woken ≤ 0xFF
  unfolding plan_acquire
  asked-woken false b f z = omega arith
  asked-woken true true f z = omega arith
  asked-woken true false true z = omega arith
  asked-woken true false false true = omega arith
  asked-woken true false false false = omega arith

  pub cancelled-woken : (a k : Bool) → (plan_cancel a k s).woken ≤ 0xFF
  unfolding plan_cancel
  cancelled-woken false k = omega arith
  cancelled-woken true true = omega arith
  cancelled-woken true false = omega arith

  pub released-woken : (a z : Bool) → (z ≡ true → by_waiter 0xFF (λ q. q) s.seat.place ≤ 0xFF)
      → (plan_release a z s).woken ≤ 0xFF
  unfolding plan_release
  released-woken false z e = omega arith
  released-woken true true e = e refl
  released-woken true false e = omega arith
