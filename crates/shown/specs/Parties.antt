-- Who holds and who waits at a hub, from the phases alone.
use Rattle.std.specs.Prelude.{ℕ, zero, suc, Bool, cond, ◌&&◌, List, [], ◌∷◌, ◌++◌, eqb}
use Rattle.hub.specs.declared.record.Hub.{Hub}
use Rattle.hub.specs.declared.record.Phase.{Phase}
use Rattle.hub.specs.Phases.{holds, is_waiting, ticket_of}
use Rattle.hub.specs.Record.{phases_of}

-- Of the parties from p on, those whose phase passes a test, rising.
unfoldable pub parties_from : ℕ → (Phase → Bool) → List Phase → List ℕ
parties_from p f [] = []
parties_from p f (x ∷ l) = let r = parties_from (suc p) f l in cond (f x) (p ∷ r) r

unfoldable pub holders_of : Hub → List ℕ
holders_of h = parties_from 0 holds (phases_of h.slots)

-- Does a party of this phase wait with number t?
abbrev pub waits_with : ℕ → Phase → Bool
waits_with t f = is_waiting f && eqb (ticket_of f) t

-- For each of the n numbers from t on in turn, the parties that wait with it.
unfoldable pub waiters_from : ℕ → ℕ → List Phase → List ℕ
waiters_from t zero l = []
waiters_from t (suc n) l = parties_from 0 (waits_with t) l ++ waiters_from (suc t) n l

-- The parties that wait, in the order of their numbers: those from 0 up to *numbered*.
unfoldable pub waiters_of : Hub → List ℕ
waiters_of h = waiters_from 0 h.control.figures.issued (phases_of h.slots)
