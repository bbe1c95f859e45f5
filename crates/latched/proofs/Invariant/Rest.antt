-- With everyone at rest after the count is 0, nobody waits.
use Prim.Native.Nat.{ℕ}
use mathlib.Core.Path.{◌≡◌, refl, sym, ap, ◌∙◌}
use mathlib.Core.List.{[], ◌∷◌}
use native.Mathlib.Omega.{arith}
use Rattle.hub.specs.declared.record.Phase.TheVariants.{Waiting, Resuming, ResumingAt}
use Rattle.hub.specs.Ledger.{phase_in}
use Rattle.hub.specs.Phases.{at_rest, is_one_of}
use Rattle.hub.proofs.Invariant.Rest.{Settled, idle, no-permits, rest-settled}
use Rattle.hub.proofs.Invariant.Tickets.{one_in}
use Rattle.hub.proofs.Invariant.Weights.{one, pick, live, resuming}
use Rattle.latched.specs.Claims.{Calm}
use Rattle.latch.specs.Ledger.{slot_in}
use Rattle.latch.specs.Queue.{Queue, phases}
use Rattle.latch.specs.Record.{read_slot}
use Rattle.latch.proofs.Laws.Slots.{read-phase}
use Rattle.latched.proofs.Invariant.Weights.{due-done, sum}
use Rattle.latched.proofs.Invariant.Keep.{Inv, no-load, spare-most}

module _ (m : Queue) (inv : Inv m) (rest : Calm m.slots) (z : m.figures.count ≡ 0) where
  phase-of : (p : ℕ) → (slot_in m.slots p).phase ≡ phase_in (phases m) p
  phase-of p = unfold read_slot in read-phase m.slots p

  settled : Settled (phases m)
  settled p = rest-settled (phase_in (phases m) p) (sym (ap at_rest (phase-of p)) ∙ rest p)

  nobody : sum resuming m ≡ 0
  nobody = idle inv.tickets settled (Resuming ∷ ResumingAt 0 ∷ []) one refl

  pub nobody-waits : (p t : ℕ) → (slot_in m.slots p).phase ≡ Waiting t → ⊥
  unfolding pick is_one_of
  nobody-waits p t e =
      omega (
        arith,
        inv.tickets.balance,
        nobody,
        no-load m inv nobody,
        spare-most m inv,
        no-permits inv.tickets settled,
        due-done m.figures.count m.figures.waiters z,
        one_in inv.tickets live p (Waiting t) refl (sym (phase-of p) ∙ e),
      )
