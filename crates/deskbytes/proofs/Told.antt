-- `WritesShown`: the bytes of whole operations are those of what is told of them at the hub, and by `ScreenShows` that is
-- what the screen tells.
use Prim.Native.Nat.{ℕ, ◌*◌, ◌/◌}
use mathlib.Core.Path.{◌≡◌, refl, ap, sym, ◌∙◌}
use mathlib.Core.Bool.{true, true≢false}
use mathlib.Core.List.{List, [], ◌∷◌, ◌++◌, map}
use lib.Dec.{eqb}
use lib.ListN.{length, drop}
use Rattle.hub.specs.declared.record.Hub.{Hub}
use Rattle.hub.specs.Answers.{printed}
use Rattle.hub.specs.Opening.{opening}
use Rattle.hub.proofs.Laws.Bools.{first, second}
use Rattle.encoding.specs.Frame.{op_of}
use Rattle.operations.specs.Operation.{operated}
use Rattle.run.specs.Bytes.{calls_of, well_formed}
use Rattle.run.specs.Run.{end_if}
use Rattle.perform.specs.Bytes.{answer_bytes, answers_to, answers_written, is_operation_code}
use Rattle.perform.proofs.Laws.Codes.{among-three}
use Rattle.screen.specs.Moves.{call_of}
use Rattle.screen.specs.Reached.{DeskRequest}
use Rattle.shown.specs.Shows.{ScreenShows, call_for, hub_told}
use Rattle.shown.proofs.Shows.{screen-shows}
use Rattle.deskbytes.specs.Told.{WritesShown, operation_in, requests_of, told_bytes}

-- Well-formed bytes are the hub's calls of these requests.
calls-for : (l : List ℕ) → well_formed is_operation_code l ≡ true → calls_of l ≡ map call_for (requests_of l)
unfolding well_formed calls_of requests_of
calls-for [] w = refl
calls-for (c ∷ []) w = absurd (true≢false (sym w))
calls-for (c ∷ p ∷ l) w =
    λ i. one (first (is_operation_code c) _ w) i ∷ calls-for l (second (is_operation_code c) _ w) i
  where
    one : is_operation_code c ≡ true → record { op = op_of c; party = p } ≡ call_of (operation_in c) p
    one = among-three (λ (c : ℕ). record { op = op_of c; party = p } ≡ call_of (operation_in c) p) refl refl refl c

-- The answers to them are what is told at the hub.
answers-told : (h : Hub) (rs : List DeskRequest) → answers_to h (map call_for rs) ≡ told_bytes (hub_told h rs)
unfolding answers_to hub_told told_bytes
answers-told h [] = refl
answers-told h (r ∷ rs) =
    ap (λ (l : List ℕ). answer_bytes (operated h (call_for r)) ++ l)
    (answers-told (operated h (call_for r)).hub rs)

pub writes-shown : WritesShown
unfolding WritesShown ScreenShows end_if
writes-shown o e operations out w m n =
    (λ i.
    end_if (eqb (printed (e i)).code 0x1F) (w i) (m i) (printed (opening o).answer).code out
    (answers_written (opening o).hub operations out))
    ∙ ap (λ (l : List ℕ). record { result = 0; out = l ++ drop (3 * (length operations / 2)) out })
    (ap (answers_to (opening o).hub) (calls-for operations w)
    ∙ answers-told (opening o).hub (requests_of operations)
    ∙ ap told_bytes (screen-shows o e (requests_of operations) n).told)
