-- `put_text` meets its contract: what is written is what the bytes so far read as.
use Prim.Native.Nat.{ℕ, ◌<◌}
use mathlib.Core.List.{List}
use mathlib.Core.Path.{ap, ◌∙◌}
use native.Mathlib.Omega.{arith}
use lib.ListN.{get_or}
use Rattle.caselines.proofs.Laws.Text.{onward, ended}
use Rattle.caselines.proofs.put_text.Goals as goal

-- What is looked up is a byte.
byte : (c : goal.After-to_le_bytes) → get_or c.args.bytes.now c.loop-i.i 0 < 256
byte c = omega (arith, c.type_inv.bytes c.loop-i.i)

pub loop-i-preserved : goal.loop-i-preserved
loop-i-preserved c =
    let said = c.to_le_bytes.ensures in
    onward _ _ _ c.loop-i.invariant _ _ c.loop-i-test.true
    (ap (λ (l : List ℕ). get_or l 0 0) said ∙ c.table-pairs.ensures.first _ (byte c))
    (ap (λ (l : List ℕ). get_or l 1 0) said ∙ c.table-pairs.ensures.second _ (byte c))

pub returns : goal.returns
returns c = ended _ _ _ c.loop-i.invariant c.loop-i-test.false
