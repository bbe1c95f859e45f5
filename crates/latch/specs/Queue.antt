-- The latch of document 000 in the steps of M-150: the record with an unbounded array of cells instead of 256
-- places. It has no oldest ticket and never refuses by 7. It passes cancelled cells at once, as the hub's queue.
use Rattle.std.specs.Prelude.{ℕ, zero, suc, ◌+◌, Bool, true, false, cond, List, [], ◌∷◌, ltb, replicate}
use Rattle.hub.specs.declared.answers.Answer.{Answer}
use Rattle.hub.specs.declared.record.Phase.{Phase}
use Rattle.hub.specs.declared.record.Place.{Place}
use Rattle.hub.specs.declared.record.PlaceSlot.{PlaceSlot}
use Rattle.hub.specs.Phases.{by_ticket, is_cancelled}
use Rattle.hub.specs.Queue.{write}
use Rattle.hub.specs.Record.{PARTIES, empty_seat, with_place}
use Rattle.latch.specs.declared.moves.LatchCall.{LatchCall}
use Rattle.latch.specs.declared.moves.LatchSight.{LatchSight}
use Rattle.latch.specs.declared.record.LatchFigures.{LatchFigures}
use Rattle.latch.specs.declared.record.LatchSlot.{LatchSlot}
use Rattle.latch.specs.Calls.{answer_of, checked}
use Rattle.latch.specs.Look.{seen_by}
use Rattle.latch.specs.Moves.{Change}
use Rattle.latch.specs.Moves.{Move}
use Rattle.latch.specs.Moves.{Refuse, Act, Put, Wake}
use Rattle.latch.specs.Opening.{figures_at}
use Rattle.latch.specs.Record.{free_slot, phases_of, read_slot, write_slot}
use Rattle.latch.specs.Table.{decide, with_resumed}

pub record Queue : Type 0 where
  pub parties : ℕ
  pub figures : LatchFigures
  pub cells : ℕ → PlaceSlot
  pub slots : List LatchSlot

abbrev pub look : Queue → ℕ → LatchSight
look m = seen_by (read_slot m.slots) m.cells m.figures

-- The queue with other figures, cells and slots.
abbrev pub with_parts : LatchFigures → (ℕ → PlaceSlot) → List LatchSlot → Queue → Queue
with_parts f g l m = record { parties = m.parties; figures = f; cells = g; slots = l }

-- Cancelled cells at the next ticket to resume are skipped, at most n of them.
abbrev pub skipped : Queue → Queue
skipped m =
    let t = m.figures.resumed in
    with_parts (with_resumed (t + 1) m.figures) (write m.cells t (with_place Place.Done (m.cells t))) m.slots m

abbrev pub can_skip : Queue → Bool
can_skip m = is_cancelled (m.cells m.figures.resumed).place

unfoldable pub skip : ℕ → Queue → Queue
skip zero m = m
skip (suc n) m = cond (can_skip m) (skip n (skipped m)) m

-- A cancelled cell has a ticket that was issued: there are at most as many.
abbrev pub tidied : Queue → Queue
tidied m = skip m.figures.issued m

-- The same three changes as at the latch.
abbrev pub acted : Queue → ℕ → Change → Queue
acted m p c = with_parts c.figures m.cells (write_slot m.slots p c.slot) m

abbrev pub placed : Queue → Phase → PlaceSlot → Queue
placed m f a = with_parts m.figures (by_ticket m.cells (λ t. write m.cells t a) f) m.slots m

abbrev pub woken : Queue → ℕ → LatchSlot → Queue
woken m q s = with_parts m.figures m.cells (write_slot m.slots q s) m

unfoldable pub apply : Queue → LatchSight → Move → Queue
apply m s (Refuse r) = m
apply m s (Act c) = tidied (acted m s.party c)
apply m s (Put a c) = tidied (acted (placed m s.slot.phase a) s.party c)
apply m s (Wake q x a c) =
    tidied (acted (placed (woken m q x) s.slot.phase a) s.party c)

abbrev pub move_of : Queue → LatchCall → Move
move_of m c =
    checked true (ltb c.party m.parties) (decide c.op false (look m c.party))

abbrev pub next : Queue → LatchCall → Queue
next m c = apply m (look m c.party) (move_of m c)

unfoldable pub run : Queue → List LatchCall → Queue
run m [] = m
run m (c ∷ cs) = run (next m c) cs

unfoldable pub answers : Queue → List LatchCall → List Answer
answers m [] = []
answers m (c ∷ cs) = answer_of (move_of m c) ∷ answers (next m c) cs

unfoldable pub fresh : ℕ → ℕ → Queue
fresh c n =
    record {
      parties = n;
      figures = figures_at c;
      cells = λ t. empty_seat;
      slots = replicate PARTIES free_slot;
    }

-- What the invariant looks at: everybody's phase, and the place of each ticket.
abbrev pub phases : Queue → List Phase
phases m = phases_of m.slots

abbrev pub places : Queue → ℕ → Place
places m t = (m.cells t).place
