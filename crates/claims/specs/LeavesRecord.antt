-- "Every refusal answers its number and leaves the whole record alone"; "37 and 39 change nothing, tidying included".
use Rattle.std.specs.Prelude.{ℕ, ◌≡◌, Bool, true, ◌||◌, [], ◌∷◌, ltb}
use Rattle.hub.specs.declared.moves.Call.{Call}
use Rattle.hub.specs.declared.record.Hub.{Hub}
use Rattle.hub.specs.Answers.{printed}
use Rattle.hub.specs.Basics.{among}
use Rattle.hub.specs.Calls.{called}

-- A refusal's code is below 20.
abbrev pub leaves_all : ℕ → Bool
leaves_all c = ltb c 0x20 || among (0x37 ∷ 0x39 ∷ []) c

-- Of every record, whether it fits or not, and every call: such an answer gives the record back as it came.
unfoldable pub LeavesRecord : Type 0
LeavesRecord =
    (h : Hub) (c : Call) → leaves_all (printed (called h c).answer).code ≡ true → (called h c).hub ≡ h
