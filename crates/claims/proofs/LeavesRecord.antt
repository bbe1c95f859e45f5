-- A refusal, 37 and 39 leave the record: the table gives those answers where it changes nothing, and they move no radio.
use Prim.Native.Nat.{ℕ}
use mathlib.Core.Path.{◌≡◌, refl, sym, ap, ◌∙◌}
use mathlib.Core.Bool.{Bool, true, false, not}
use borrow.Author.Tests.{ne_eqb}
use lib.Dec.{eqb}
use Rattle.hub.specs.declared.moves.Op.{Op}
use Rattle.hub.specs.declared.moves.Sight.{Sight}
use Rattle.hub.specs.declared.record.Hub.{Hub}
use Rattle.hub.specs.declared.record.Pool.{Pool}
use Rattle.hub.specs.Answers.{Printed, printed}
use Rattle.hub.specs.Calls.{answer_of, apply, checked, is_full, move_of}
use Rattle.hub.specs.Fits.{fits}
use Rattle.claims.specs.LeavesRecord.{LeavesRecord, leaves_all}
use Rattle.hub.specs.Look.{look}
use Rattle.hub.specs.Moves.{Move, Refuse, Tell, Act, Put, Wake}
use Rattle.hub.specs.Radios.{moved, pool_after}
use Rattle.hub.specs.Record.{with_pool}
use Rattle.hub.specs.Table.{acquire, cancel, decide, release, tell_radio}
use Rattle.hub.proofs.Laws.Bools.{never}
use Rattle.hub.proofs.Laws.Rows.{calls-alike, open_row}

-- Does a move change nothing, or answer otherwise?
abbrev answers_so : Move → Bool
answers_so (Refuse r) = true
answers_so (Tell y) = true
answers_so (Act c) = not (leaves_all (printed c.answer).code)
answers_so (Put a c) = not (leaves_all (printed c.answer).code)
answers_so (Wake q s a c) = not (leaves_all (printed c.answer).code)

decided : (s : Sight) (o : Op) (full : Bool) → answers_so (decide o full s) ≡ true
unfolding open_row acquire cancel release tell_radio
decided s = calls-alike s answers_so true (λ t q. refl) (λ x. refl)

checked-so : (a b : Bool) (m : Move) → answers_so m ≡ true → answers_so (checked a b m) ≡ true
unfolding checked
checked-so false b m e = refl
checked-so true false m e = refl
checked-so true true m e = e

not-both : (b : Bool) → not b ≡ true → b ≡ true → {A : Type 0} → A
not-both true e f = never (sym e)
not-both false e f = never (sym f)

applied : (h : Hub) (s : Sight) (m : Move) → answers_so m ≡ true → leaves_all (printed (answer_of m)).code ≡ true
    → apply h s m ≡ h
unfolding apply
applied h s (Refuse r) e f = refl
applied h s (Tell y) e f = refl
applied h s (Act c) e f = not-both _ e f
applied h s (Put a c) e f = not-both _ e f
applied h s (Wake q x a c) e f = not-both _ e f

-- An answer that leaves the record moves no radio.
still : (y : Printed) (p : ℕ) (q : Pool) → leaves_all y.code ≡ true → moved y p q ≡ q
unfolding moved
still y p q e =
    rw (
      other 0x36 refl,
      other 0x38 refl,
      other 0x2D refl,
      other 0x29 refl,
      other 0x2B refl,
      other 0x25 refl,
      other 0x31 refl,
      other 0x2A refl,
      other 0x33 refl,
    ) refl
  where
    other : (k : ℕ) → leaves_all k ≡ false → eqb y.code k ≡ false
    other k f = ne_eqb y.code k (λ i. never (sym e ∙ ap leaves_all i ∙ f))

pool-stays : (named : Bool) (y : Printed) (p : ℕ) (q : Pool) → leaves_all y.code ≡ true → pool_after named y p q ≡ q
unfolding pool_after
pool-stays true y p q e = still y p q e
pool-stays false y p q e = refl

pub leaves-record : LeavesRecord
unfolding LeavesRecord
leaves-record h c e =
    let s = look h c.party in
    let so = checked-so (fits h) _ _ (decided s c.op (is_full h.control.oldest h.control.figures.issued h.slots)) in
    λ i.
    with_pool (pool-stays h.control.opening.named (printed (answer_of (move_of h c))) c.party h.control.pool e i)
    (applied h s (move_of h c) so e i)
