-- A list of calls as bytes. A call is its code and the party.
use Rattle.std.specs.Prelude.{ℕ, Bool, List, [], ◌∷◌}
use Rattle.hub.specs.Basics.{among}
use Rattle.latch.specs.declared.moves.LatchCall.{LatchCall}
use Rattle.latchbatch.specs.Batch.{call_for}

-- 10 await, 11 step, 12 give up, 13 count down.
abbrev pub is_call : ℕ → Bool
is_call c = among (0x10 ∷ 0x11 ∷ 0x12 ∷ 0x13 ∷ []) c

unfoldable pub calls_of : List ℕ → List LatchCall
calls_of [] = []
calls_of (c ∷ []) = []
calls_of (c ∷ p ∷ l) = call_for c p ∷ calls_of l
