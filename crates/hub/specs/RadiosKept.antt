-- What is claimed of radios: two claims over every schedule, call 14 among the calls, and one about any store.
use Rattle.std.specs.Prelude.{ℕ, ◌<◌, ◌≡◌, true, List, [], ◌∷◌, ◌++◌, ◌≢◌, length}
use Rattle.hub.specs.declared.answers.Answer.{Answer}
use Rattle.hub.specs.declared.moves.Call.{Call}
use Rattle.hub.specs.declared.moves.Op.{Op}
use Rattle.hub.specs.declared.opening.Opening.{Opening}
use Rattle.hub.specs.declared.record.Phase.{Phase}
use Rattle.hub.specs.declared.record.Pool.{Pool}
use Rattle.hub.specs.Calls.{called}
use Rattle.hub.specs.Opening.{opening}
use Rattle.hub.specs.Phases.{at_rest}
use Rattle.hub.specs.Radios.{STORE, fetch, hand_of, occurs, put_back, radios_in, radios_of, stored_in}
use Rattle.hub.specs.Record.{read_slot}
use Rattle.hub.specs.Schedule.{run}

-- Parties, places and store together hold a rearrangement of the opening's list: as often each byte. Its radios
-- are all different, so that each is with one of them, and with one alone.
unfoldable pub RadiosKept : Type 0
RadiosKept =
    (o : Opening) → (opening o).answer ≡ Answer.Opened → o.named ≡ true → (cs : List Call)
    → let h = run (opening o).hub cs in
    (b : ℕ) → occurs b (radios_in h.slots h.places h.control.pool) ≡ occurs b (radios_of o)

-- 37 is not for good: a fetching party gets its radio as soon as all others are at rest.
unfoldable pub RadioComes : Type 0
RadioComes =
    (o : Opening) → (opening o).answer ≡ Answer.Opened → (cs : List Call)
    → let h = run (opening o).hub cs in
    (p : ℕ) → (read_slot h.slots p).phase ≡ Phase.Fetching
    → ((q : ℕ) → q ≢ p → at_rest (read_slot h.slots q).phase ≡ true)
    → (called h (record { op = Op.Step; party = p })).answer ≡ Answer.Fetched

-- The store is first in, first out: what is put back goes behind the others, and the first is taken.
unfoldable pub FirstInFirstOut : Type 0
FirstInFirstOut =
    (q : Pool) → length q.store ≡ STORE
    → ((r : ℕ) → q.stored < STORE → stored_in (put_back r q) ≡ stored_in q ++ (r ∷ []))
    × ((p x : ℕ) (l : List ℕ) → p < length q.hands → stored_in q ≡ x ∷ l
    → (stored_in (fetch p q) ≡ l) × (hand_of (fetch p q) p ≡ x))
