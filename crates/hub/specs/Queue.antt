-- The semaphore of document 000 in the steps of document 01: the hub with an unbounded array of
-- cells instead of 256 places. It has no oldest ticket and never refuses by 7. As the hub does,
-- it passes cancelled cells at once, where document 000 passes one with each resume. Radios at cells are
-- kept as the hub keeps them, by number modulo 256; that none is lost by it is `RadiosKept`.
use Rattle.std.specs.Prelude.{ℕ, zero, suc, ◌+◌, Bool, true, false, cond, List, [], ◌∷◌, eqb, ltb, replicate}
use Rattle.hub.specs.declared.answers.Answer.{Answer}
use Rattle.hub.specs.declared.moves.Call.{Call}
use Rattle.hub.specs.Moves.{Change}
use Rattle.hub.specs.Moves.{Move}
use Rattle.hub.specs.Moves.{Refuse, Tell, Act, Put, Wake}
use Rattle.hub.specs.declared.moves.Sight.{Sight}
use Rattle.hub.specs.declared.opening.Opening.{Opening}
use Rattle.hub.specs.declared.record.Figures.{Figures}
use Rattle.hub.specs.declared.record.PartySlot.{PartySlot}
use Rattle.hub.specs.declared.record.Phase.{Phase}
use Rattle.hub.specs.declared.record.Place.{Place}
use Rattle.hub.specs.declared.record.PlaceSlot.{PlaceSlot}
use Rattle.hub.specs.declared.record.Pool.{Pool}
use Rattle.hub.specs.Answers.{printed}
use Rattle.hub.specs.Calls.{answer_of, checked}
use Rattle.hub.specs.Look.{seen_by}
use Rattle.hub.specs.Opening.{figures_at, pool_at}
use Rattle.hub.specs.Phases.{by_ticket, is_cancelled}
use Rattle.hub.specs.Radios.{pool_after}
use Rattle.hub.specs.Record.{PARTIES, empty_seat, free_slot, phases_of, read_slot, with_place, write_slot}
use Rattle.hub.specs.Table.{decide, with_resumed}

pub record Queue : Type 0 where
  pub opening : Opening
  pub figures : Figures
  pub cells : ℕ → PlaceSlot
  pub slots : List PartySlot
  pub pool : Pool

abbrev pub look : Queue → ℕ → Sight
look m = seen_by (read_slot m.slots) m.cells m.figures m.opening m.pool

unfoldable pub write : (ℕ → PlaceSlot) → ℕ → PlaceSlot → ℕ → PlaceSlot
write g t a u = cond (eqb u t) a (g u)

-- The queue with other figures, cells, slots and radios.
abbrev pub with_parts : Figures → (ℕ → PlaceSlot) → List PartySlot → Pool → Queue → Queue
with_parts f g l q m = record { opening = m.opening; figures = f; cells = g; slots = l; pool = q }

-- Cancelled cells at the next ticket to resume are skipped, at most n of them.
abbrev pub skipped : Queue → Queue
skipped m =
    let t = m.figures.resumed in
    with_parts (with_resumed (t + 1) m.figures) (write m.cells t (with_place Place.Done (m.cells t))) m.slots
    m.pool m

abbrev pub can_skip : Queue → Bool
can_skip m = is_cancelled (m.cells m.figures.resumed).place

unfoldable pub skip : ℕ → Queue → Queue
skip zero m = m
skip (suc n) m = cond (can_skip m) (skip n (skipped m)) m

-- A cancelled cell has a ticket that was issued: there are at most as many.
abbrev pub tidied : Queue → Queue
tidied m = skip m.figures.issued m

-- The same three changes as at the hub.
abbrev pub acted : Queue → ℕ → Change → Queue
acted m p c = with_parts c.figures m.cells (write_slot m.slots p c.slot) m.pool m

abbrev pub placed : Queue → Phase → PlaceSlot → Queue
placed m f a = with_parts m.figures (by_ticket m.cells (λ t. write m.cells t a) f) m.slots m.pool m

abbrev pub woken : Queue → ℕ → PartySlot → Queue
woken m q s = with_parts m.figures m.cells (write_slot m.slots q s) m.pool m

unfoldable pub apply : Queue → Sight → Move → Queue
apply m s (Refuse r) = m
apply m s (Tell y) = m
apply m s (Act c) = tidied (acted m s.party c)
apply m s (Put a c) = tidied (acted (placed m s.slot.phase a) s.party c)
apply m s (Wake q x a c) =
    tidied (acted (placed (woken m q x) s.slot.phase a) s.party c)

abbrev pub move_of : Queue → Call → Move
move_of m c =
    checked true (ltb c.party m.opening.parties) (decide c.op false (look m c.party))

abbrev pub with_pool : Pool → Queue → Queue
with_pool q m = with_parts m.figures m.cells m.slots q m

-- The radios move as at the hub.
abbrev pub next : Queue → Call → Queue
next m c =
    let v = move_of m c in
    with_pool (pool_after m.opening.named (printed (answer_of v)) c.party m.pool)
    (apply m (look m c.party) v)

unfoldable pub run : Queue → List Call → Queue
run m [] = m
run m (c ∷ cs) = run (next m c) cs

unfoldable pub answers : Queue → List Call → List Answer
answers m [] = []
answers m (c ∷ cs) = answer_of (move_of m c) ∷ answers (next m c) cs

unfoldable pub fresh : Opening → Queue
fresh o =
    record {
      opening = o;
      figures = figures_at o;
      cells = λ t. empty_seat;
      slots = replicate PARTIES free_slot;
      pool = pool_at o;
    }

-- What the invariant looks at: everybody's phase, and the place of each ticket.
abbrev pub phases : Queue → List Phase
phases m = phases_of m.slots

abbrev pub places : Queue → ℕ → Place
places m t = (m.cells t).place
