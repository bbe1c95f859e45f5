-- What the second demand means for document 000: on the calls that are not answered 7 the hub
-- answers as the unbounded queue does, and its record is a window of the queue.
use Rattle.std.specs.Prelude.{ℕ, ◌+◌, ◌≤◌, ◌<◌, ◌≡◌, Bool, cond, List, [], ◌∷◌, eqb}
use Rattle.hub.specs.declared.answers.Answer.{Answer}
use Rattle.hub.specs.declared.moves.Call.{Call}
use Rattle.hub.specs.declared.opening.Opening.{Opening}
use Rattle.hub.specs.declared.record.Hub.{Hub}
use Rattle.hub.specs.declared.record.Place.{Place}
use Rattle.hub.specs.declared.record.PlaceSlot.{PlaceSlot}
use Rattle.hub.specs.Answers.{printed}
use Rattle.hub.specs.Calls.{called}
use Rattle.hub.specs.Opening.{opening}
use Rattle.hub.specs.Queue.{Queue}
use Rattle.hub.specs.Queue as queue
use Rattle.hub.specs.Record.{empty_seat}
use Rattle.hub.specs.Ring.{PLACES, read_seat}
use Rattle.hub.specs.Schedule.{run, answers}

-- Places l, with oldest ticket o, are a window of the cells g: cells before it are done, those
-- within it are the places, those beyond it are empty.
pub record Window (o : ℕ) (l : List PlaceSlot) (g : ℕ → PlaceSlot) : Type 0 where
  pub before : (t : ℕ) → t < o → (g t).place ≡ Place.Done
  pub within : (t : ℕ) → o ≤ t → t < o + PLACES → g t ≡ read_seat l t
  pub beyond : (t : ℕ) → o + PLACES ≤ t → g t ≡ empty_seat

-- The record h shows the queue m.
pub record Shows (h : Hub) (m : Queue) : Type 0 where
  pub opening : h.control.opening ≡ m.opening
  pub figures : h.control.figures ≡ m.figures
  pub slots : h.slots ≡ m.slots
  pub window : Window h.control.oldest h.places m.cells
  pub pool : h.control.pool ≡ m.pool

abbrev pub is_seven : Answer → Bool
is_seven r = eqb (printed r).code 7

-- A schedule without the calls that are answered 7, and answers without the sevens.
unfoldable pub heard : Hub → List Call → List Call
heard h [] = []
heard h (c ∷ cs) =
    let r = heard (called h c).hub cs in
    cond (is_seven (called h c).answer) r (c ∷ r)

unfoldable pub without_sevens : List Answer → List Answer
without_sevens [] = []
without_sevens (r ∷ rs) = let q = without_sevens rs in cond (is_seven r) q (r ∷ q)

unfoldable pub Refines : Type 0
Refines =
    (o : Opening) → (opening o).answer ≡ Answer.Opened → (cs : List Call)
    → let h = (opening o).hub in
    Shows (run h cs) (queue.run (queue.fresh o) (heard h cs))
    × (without_sevens (answers h cs) ≡ queue.answers (queue.fresh o) (heard h cs))
