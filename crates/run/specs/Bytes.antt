-- A list of calls as bytes, and the answers to it.
use Rattle.std.specs.Prelude.{ℕ, Bool, true, false, ◌&&◌, List, [], ◌∷◌, map}
use Rattle.hub.specs.declared.moves.Call.{Call}
use Rattle.hub.specs.declared.record.Hub.{Hub}
use Rattle.hub.specs.Schedule.{entries}
use Rattle.encoding.specs.Form.{as_bytes}
use Rattle.encoding.specs.Frame.{op_of}
use Rattle.line.specs.Program.{reply_of, rendered}

-- Two bytes each, the first of them a code that passes a test.
unfoldable pub well_formed : (ℕ → Bool) → List ℕ → Bool
well_formed is_code [] = true
well_formed is_code (c ∷ []) = false
well_formed is_code (c ∷ p ∷ l) = is_code c && well_formed is_code l

unfoldable pub calls_of : List ℕ → List Call
calls_of [] = []
calls_of (c ∷ []) = []
calls_of (c ∷ p ∷ l) = record { op = op_of c; party = p } ∷ calls_of l

-- The answers to a schedule.
abbrev pub frames_of : Hub → List Call → List ℕ
frames_of h cs = rendered as_bytes (map reply_of (entries h cs))
