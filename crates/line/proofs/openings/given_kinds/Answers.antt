-- `given_kinds` meets its contract: kinds that are 32 in number are kept, and no others.
use native.Mathlib.Omega.{arith}
use Rattle.line.proofs.Laws.Openings.{given-none, miscounted, whole}
use Rattle.line.proofs.openings.given_kinds.Goals as goal

pub returns-in-0 : goal.returns-in-0
returns-in-0 c = given-none _ _ c.in-0.is

pub returns-in-32 : goal.returns-in-32
returns-in-32 c = whole _ _ (λ e. omega arith) _ c.in-32.is c.padded.ensures

pub returns-in_default : goal.returns-in_default
returns-in_default c = miscounted _ _ (λ e. omega arith) _ (λ e. omega arith) c.built_in.ensures
