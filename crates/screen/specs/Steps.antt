-- "How many steps the hub would take to come to rest", from the line alone; the call's own 20 is not counted.
use Rattle.std.specs.Prelude.{ℕ, Bool, Option, Some, None, cond}
use Rattle.screen.specs.declared.record.Line.{Line}
use Rattle.screen.specs.declared.record.Operation.{Operation}
use Rattle.screen.specs.Moves.{has_permit, has_waiter, is_accepted, line_move, next_waiter}

-- A permit from the counter, 21, or back to it, 26. With radios one step more: 36, 38.
abbrev pub to_counter : Bool → ℕ
to_counter named = cond named 2 1

-- A wait: 22, 23, 24. Giving one up: 2E, 30. A permit handed over: 27, 28, 2A.
abbrev pub TO_WAIT : ℕ
TO_WAIT = 3

abbrev pub TO_CANCEL : ℕ
TO_CANCEL = 2

abbrev pub TO_HAND_OVER : ℕ
TO_HAND_OVER = 3

-- Of an operation that is accepted.
unfoldable pub own_steps : Line → Operation → ℕ
own_steps l Operation.Acquire = cond (has_permit l) (to_counter l.named) TO_WAIT
own_steps l Operation.Cancel = TO_CANCEL
own_steps l Operation.Release = cond (has_waiter l) TO_HAND_OVER (to_counter l.named)

-- A refused operation takes none.
unfoldable pub steps_to_rest : Line → Operation → ℕ → ℕ
steps_to_rest l o p = cond (is_accepted (line_move l o p).answer) (own_steps l o) 0

-- The same of an operation that is accepted; a refused one has no such number. The desk prints it.
unfoldable pub accepted_steps : Line → Operation → ℕ → Option ℕ
accepted_steps l o p = cond (is_accepted (line_move l o p).answer) (Some (steps_to_rest l o p)) None

-- Whom an operation wakes: the first that waits, where a permit is handed over; else FF.
unfoldable pub own_woken : Line → Operation → ℕ
own_woken l Operation.Acquire = 0xFF
own_woken l Operation.Cancel = 0xFF
own_woken l Operation.Release = cond (has_waiter l) (next_waiter l) 0xFF

unfoldable pub woken_by : Line → Operation → ℕ → ℕ
woken_by l o p = cond (is_accepted (line_move l o p).answer) (own_woken l o) 0xFF
