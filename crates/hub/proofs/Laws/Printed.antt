-- What is printed: the codes of refusals; and a promise that gives the outcome gives what is printed for it.
use Prim.Native.Nat.{ℕ, ◌≤◌, ◌<◌}
use mathlib.Core.Path.{◌≡◌, ap}
use mathlib.Core.Bool.{false}
use native.Mathlib.Omega.{arith}
use borrow.Author.Tests.{ne_eqb}
use lib.Dec.{eqb}
use Rattle.hub.specs.declared.answers.Refusal.{Refusal}
use Rattle.hub.specs.declared.record.Outcome.{Outcome}
use Rattle.hub.specs.Answers.{printed, refusal_code}

-- A refusal's code is at most 17,
pub few-refusals : (r : Refusal) → refusal_code r ≤ 17
few-refusals Refusal.Unfit = omega arith
few-refusals Refusal.BadPermits = omega arith
few-refusals Refusal.BadParties = omega arith
few-refusals Refusal.NoSuchParty = omega arith
few-refusals Refusal.NotFree = omega arith
few-refusals Refusal.Exhausted = omega arith
few-refusals Refusal.Full = omega arith
few-refusals Refusal.AtRest = omega arith
few-refusals Refusal.NotWaiting = omega arith
few-refusals Refusal.NotCancellable = omega arith
few-refusals Refusal.NotHolding = omega arith
few-refusals Refusal.SameRadios = omega arith
few-refusals Refusal.MiscountedKinds = omega arith
few-refusals Refusal.UnknownKind = omega arith
few-refusals Refusal.NoDesk = omega arith

-- so none of the codes above.
pub no-refusal : (r : Refusal) (k : ℕ) → 17 < k → eqb (refusal_code r) k ≡ false
no-refusal r k l = ne_eqb (refusal_code r) k (λ e. omega (arith, few-refusals r))

pub with-printed : {o d : Outcome} → o ≡ d → (o ≡ d) × (printed o.answer ≡ printed d.answer)
with-printed e = (e, ap (λ (o : Outcome). printed o.answer) e)
