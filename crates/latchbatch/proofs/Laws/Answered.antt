-- What a call on a lasting record answers and leaves.
use Prim.Native.Nat.{ℕ, ◌≤◌, ◌<◌}
use mathlib.Core.Path.{◌≡◌, sym}
use mathlib.Core.Bool.{true}
use mathlib.Core.List.{[], ◌∷◌}
use borrow.Author.Tests.{le-ltb, lt-ltb}
use native.Mathlib.Omega.{arith}
use Rattle.hub.specs.declared.answers.Answer.{Answer}
use Rattle.hub.specs.declared.answers.Refusal.{Refusal}
use Rattle.latch.specs.declared.moves.LatchCall.{LatchCall}
use Rattle.latch.specs.declared.moves.LatchOp.{LatchOp}
use Rattle.latch.specs.declared.record.Latch.{Latch}
use Rattle.latch.specs.Calls.{answer_of, apply, called, is_full}
use Rattle.latch.specs.Fits.{fits}
use Rattle.latch.specs.Look.{look}
use Rattle.latch.specs.Schedule.{run}
use Rattle.latch.specs.Table.{decide}
use Rattle.latchmove.proofs.Laws.Called.{Counted, admitted, asks, counted, no-such-party}
use Rattle.latchbatch.specs.Batch.{Lasting}

pub lasting-fits : (h : Latch) → Lasting h → fits h ≡ true
unfolding run
lasting-fits h r = r []

pub one_more : (h : Latch) (c : LatchCall) → Lasting h → Lasting (called h c).latch
unfolding run
one_more h c r cs = r (c ∷ cs)

module _ (h : Latch) (p : ℕ) (r : Lasting h) where
  pub counts : Counted h
  counts = counted h (lasting-fits h r)

  pub has-slot : p < h.parties → p < 32
  has-slot l = omega (arith, counts.parties)

  pub turned-away : (o : LatchOp) → h.parties ≤ p
      → called h (asks o p) ≡ record { answer = Answer.Refused Refusal.NoSuchParty; latch = h }
  turned-away o l = sym (no-such-party h p o (lasting-fits h r) (le-ltb p h.parties l))

  pub let-in : (o : LatchOp) → p < h.parties
      → let m = decide o (is_full h.oldest h.figures.issued h.slots) (look h p) in
      called h (asks o p) ≡ record { answer = answer_of m; latch = apply h (look h p) m }
  let-in o l = sym (admitted h p o (lasting-fits h r) (lt-ltb p h.parties l))
