-- The closing line shows what the record's counts are.
use Prim.Native.Nat.{ℕ}
use mathlib.Core.Path.{◌≡◌}
use Rattle.hub.specs.declared.record.Counts.{Counts}
use Rattle.hub.specs.declared.record.Hub.{Hub}
use Rattle.hub.specs.Counts.{counts_of}
use Rattle.encoding.specs.Frame.{frame_of, twos_complement}
use Rattle.encoding.specs.Hex.{text_of}
use Rattle.line.specs.Program.{closing}

pub shown : (h : Hub) (c : Counts) → c ≡ counts_of h → (n : ℕ) → n ≡ twos_complement h.control.figures.counter
    → text_of (frame_of c.held (record { code = 0x7E; woken = c.waiting; number = n }))
    ≡ closing h
unfolding counts_of
shown h c e n f =
    (λ i. text_of (frame_of (e i).held (record { code = 0x7E; woken = (e i).waiting; number = f i })))
