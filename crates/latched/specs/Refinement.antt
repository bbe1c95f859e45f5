-- On the calls that are not answered 7 the latch answers as the unbounded queue does, and its record is a window
-- of the queue.
use Rattle.std.specs.Prelude.{◌≡◌, cond, List, [], ◌∷◌}
use Rattle.hub.specs.Refinement.{Window, is_seven, without_sevens}
use Rattle.latch.specs.declared.moves.LatchCall.{LatchCall}
use Rattle.latch.specs.declared.record.Latch.{Latch}
use Rattle.latch.specs.Calls.{called}
use Rattle.latched.specs.Claims.{OnSchedules}
use Rattle.latch.specs.Opening.{opening}
use Rattle.latch.specs.Queue.{Queue}
use Rattle.latch.specs.Queue as queue
use Rattle.latch.specs.Schedule.{run, answers}

-- The record h shows the queue m.
pub record Shows (h : Latch) (m : Queue) : Type 0 where
  pub parties : h.parties ≡ m.parties
  pub figures : h.figures ≡ m.figures
  pub slots : h.slots ≡ m.slots
  pub window : Window h.oldest h.places m.cells

-- A schedule without the calls that are answered 7.
unfoldable pub heard : Latch → List LatchCall → List LatchCall
heard h [] = []
heard h (c ∷ cs) =
    let r = heard (called h c).latch cs in
    cond (is_seven (called h c).answer) r (c ∷ r)

unfoldable pub Refines : Type 0
Refines =
    OnSchedules (λ c n cs.
    let h = (opening c n).latch in
    Shows (run h cs) (queue.run (queue.fresh c n) (heard h cs))
    × (without_sevens (answers h cs) ≡ queue.answers (queue.fresh c n) (heard h cs)))
