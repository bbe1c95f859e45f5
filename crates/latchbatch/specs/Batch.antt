-- Calls as bytes, and the answers to them.
use Rattle.std.specs.Prelude.{ℕ, zero, suc, ◌+◌, ◌*◌, ◌≡◌, true, cond, List, [], ◌∷◌, ◌++◌, map, eqb, get_or, take, drop}
use Rattle.encoding.specs.Form.{as_bytes}
use Rattle.line.specs.Program.{Reply, rendered}
use Rattle.latch.specs.declared.moves.LatchCall.{LatchCall}
use Rattle.latch.specs.declared.moves.LatchOp.{LatchOp}
use Rattle.latch.specs.declared.record.Latch.{Latch}
use Rattle.latch.specs.Fits.{fits}
use Rattle.latch.specs.Schedule.{Entry, entries, run}

-- 10 await, 11 step, 12 give up, 13 count down; whoever runs calls refuses other codes before.
abbrev pub op_of : ℕ → LatchOp
op_of c =
    cond (eqb c 0x10) LatchOp.Await
    (cond (eqb c 0x11) LatchOp.Step (cond (eqb c 0x12) LatchOp.Cancel LatchOp.CountDown))

abbrev pub call_for : ℕ → ℕ → LatchCall
call_for c p = record { op = op_of c; party = p }

-- The call of the two bytes from a place on.
abbrev pub call_at : List ℕ → ℕ → LatchCall
call_at l from = call_for (get_or l from 0) (get_or l (from + 1) 0)

-- The first n calls of some bytes, two each.
unfoldable pub calls_in : ℕ → List ℕ → List LatchCall
calls_in zero l = []
calls_in (suc n) l = call_at l 0 ∷ calls_in n (drop 2 l)

-- What a bystander sees of a call, as it is replied: seven bytes.
abbrev pub reply_of : Entry → Reply
reply_of e = record { party = e.call.party; answer = e.answer }

-- The answers to a schedule.
abbrev pub frames_of : Latch → List LatchCall → List ℕ
frames_of h cs = rendered as_bytes (map reply_of (entries h cs))

-- A buffer in which the answer to call i is written.
abbrev pub with_reply : ℕ → List ℕ → List ℕ → List ℕ
with_reply i text out = (take (7 * i) out ++ text) ++ drop (7 * i + 7) out

-- In front of what the buffer holds past them.
abbrev pub answered : Latch → ℕ → List ℕ → List ℕ → List ℕ
answered h n calls out = frames_of h (calls_in n calls) ++ drop (7 * n) out

-- Whatever calls come, every record that they lead to fits: such a record needs no check.
abbrev pub Lasting : Latch → Type 0
Lasting h = (cs : List LatchCall) → fits (run h cs) ≡ true
