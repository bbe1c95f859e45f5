-- The tidying, made by the record and by the queue.
use Prim.Native.Nat.{ℕ, zero, suc}
use mathlib.Core.Path.{◌≡◌, refl, sym, ap, subst}
use mathlib.Core.Bool.{Bool, true, false, cond}
use Rattle.hub.specs.declared.record.Figures.{Figures}
use Rattle.hub.specs.declared.record.Hub.{Hub}
use Rattle.hub.specs.Calls.{tidied}
use Rattle.hub.specs.Queue.{Queue}
use Rattle.hub.specs.Queue as queue
use Rattle.hub.specs.Table.{with_resumed}
use Rattle.hub.proofs.Invariant.Keep.{Inv}
use Rattle.hub.proofs.Invariant.Schedules.{tidied-keeps}
use Rattle.hub.proofs.Window.Shown.{Tracks, tracked}
use Rattle.hub.proofs.Window.Tidied.{CellQueue, cells_from, skip_cells, tidied-tracked}

-- The queue's loop moves its cells, and the next ticket to resume, alone.
abbrev with_cells : Queue → CellQueue → Queue
with_cells m c = queue.with_parts (with_resumed c.resumed m.figures) c.cells m.slots m.pool m

skip-cells : (n : ℕ) (m : Queue) → queue.skip n m ≡ with_cells m (skip_cells n m.figures.resumed m.cells)
unfolding queue.skip skip_cells
skip-cells zero m = refl
skip-cells (suc n) m = go (queue.can_skip m) (skip-cells n (queue.skipped m))
  where
    go : (b : Bool) {c : CellQueue} → queue.skip n (queue.skipped m) ≡ with_cells m c
        → cond b (queue.skip n (queue.skipped m)) m
        ≡ with_cells m (cond b c (cells_from m.figures.resumed m.cells))
    go true e = e
    go false e = refl

pub tidied-tracks : (k : ℕ) (h : Hub) (m : Queue) → Tracks k h m
    → Tracks k (tidied h) (queue.tidied m)
unfolding tidied
tidied-tracks k h m r =
    let cells = skip-cells m.figures.issued m in
    let x = tidied-tracked h.control.figures.resumed (ap (λ (f : Figures). f.resumed) r.shows.figures) (tracked r) in
    subst (Tracks k (tidied h)) (sym cells)
    (record {
      permits = r.permits;
      size = x.tracked.size;
      inv = subst (Inv k) cells (tidied-keeps k m r.inv).0;
      room = x.tracked.room;
      shows =
          record {
            opening = r.shows.opening;
            figures = λ i. with_resumed (x.resumed i) (r.shows.figures i);
            slots = r.shows.slots;
            window = x.tracked.window;
            pool = r.shows.pool;
          };
    })
