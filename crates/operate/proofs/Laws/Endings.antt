-- A hub just opened is at rest, and a run of what is an opening is that of its outcome.
use Prim.Native.Nat.{ℕ, zero, suc}
use mathlib.Core.Path.{◌≡◌, refl, sym, ap, subst, ◌∙◌}
use mathlib.Core.Bool.{Bool, true, false}
use mathlib.Core.List.{List}
use native.Mathlib.Omega.{arith}
use lib.ListN.{get_or, replicate}
use Rattle.std.specs.Prelude.{Ok}
use Rattle.hub.specs.declared.answers.Answer.{Answer}
use Rattle.hub.specs.declared.opening.Opening.{Opening}
use Rattle.hub.specs.declared.record.Hub.{Hub}
use Rattle.hub.specs.declared.record.Outcome.{Outcome}
use Rattle.hub.specs.declared.record.PartySlot.{PartySlot}
use Rattle.hub.specs.Answers.{printed}
use Rattle.hub.specs.Calm.{rests}
use Rattle.hub.specs.Opening.{fresh, opened, opening, tests}
use Rattle.hub.specs.Phases.{at_rest, is_one_of}
use Rattle.hub.specs.Record.{PARTIES, free_slot, read_slot}
use Rattle.hub.proofs.Laws.Opening.{Ends as OpeningEnds, ends as opening-ends, opened as made, refused}
use Rattle.hub.proofs.Laws.Printed.{few-refusals}
use Rattle.line.specs.Requests.{Request, to_open}
use Rattle.batch.proofs.Laws.Reachable.{opening-reachable}
use Rattle.perform.specs.Rested.{Rested}
use Rattle.run.specs.Run.{Ended, Ran}
use Rattle.run.proofs.Laws.Endings.{Ends}
use Rattle.operate.specs.Ending.{operated_framed, operated_from}

-- What is an opening makes the run of its outcome.
pub of-opening : (r : Ran) (q : Request) (k : Opening) (operations out : List ℕ) → to_open k ≡ q → {l : List ℕ}
    → Ends (operated_from (opening k) operations out) r l → Ends (operated_framed q operations out) r l
of-opening r q k operations out e {l} x =
    subst (λ (y : Ended). Ends y r l) (ap (λ (y : Request). operated_framed y operations out) e) x

-- A hub just opened is at rest.
all-free : (n p : ℕ) → get_or (replicate n free_slot) p free_slot ≡ free_slot
all-free zero p = refl
all-free (suc n) zero = refl
all-free (suc n) (suc p) = all-free n p

calm-fresh : (k : Opening) (p : ℕ) → rests (fresh k) p ≡ true
unfolding fresh read_slot is_one_of
calm-fresh k p = ap (λ (s : PartySlot). at_rest s.phase) (all-free PARTIES p)

by_code : (k : Opening) (b : Bool) (x : Outcome) → OpeningEnds k b x → (printed x.answer).code ≡ 0x1F
    → (x.answer ≡ Answer.Opened) × (x.hub ≡ fresh k)
by_code k false x (refused r) e = absurd (omega (arith, e, few-refusals r))
by_code k true x made e = (refl, refl)

pub opened-rests : (k : Opening) (h : Hub) → opened (Ok h) ≡ opening k → Rested h
opened-rests k h e =
    let z =
    by_code k _ _ (opening-ends k (tests k)) (ap (λ (x : Outcome). (printed x.answer).code) (sym e)) in
    subst Rested (ap (λ (x : Outcome). x.hub) (sym e))
    (record {
      reachable = opening-reachable k z.0;
      calm = λ p. ap (λ h. rests h p) z.1 ∙ calm-fresh k p;
    })
