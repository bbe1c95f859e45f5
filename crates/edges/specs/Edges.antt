-- "Edges": the paper's marked cases as one table, with one test over all of it. Some rows more
-- are there for what stands beside an edge, 2 before 3, an opening that is accepted, for radios and for kinds.
use Rattle.std.specs.Prelude.{ℕ, ◌≡◌, Bool, true, false, ◌&&◌, List, [], ◌∷◌, ◌++◌, eqb, ℤ, pos, negsuc, replicate}
use Rattle.hub.specs.declared.moves.Call.{Call}
use Rattle.hub.specs.declared.moves.Op.{Op}
use Rattle.hub.specs.declared.moves.Op.TheVariants.{Acquire, Step, Cancel, Release}
use Rattle.hub.specs.declared.opening.Opening.{Opening}
use Rattle.hub.specs.declared.record.Hub.{Hub}
use Rattle.hub.specs.Answers.{Printed, printed, plain, with_number}
use Rattle.hub.specs.Calls.{called}
use Rattle.hub.specs.Basics.{count}
use Rattle.hub.specs.Phases.{holds, is_waiting}
use Rattle.hub.specs.Record.{phases_of}
use Rattle.hub.specs.Opening.{opening, sized, with_kinds, with_radios}

-- A step of a run: the counter before the call, the call, and what it must answer.
pub record Row : Type 0 where
  pub counter : ℤ
  pub call : Call
  pub answer : Printed

abbrev pub at : ℤ → Op → ℕ → Printed → Row
at z o p r = record { counter = z; call = record { op = o; party = p }; answer = r }

pub data Edge : Type 0 where
  -- An opening, and its code.
  opens : Opening → ℕ → Edge
  -- An opening and a run; at its end the holders, those waiting and the counter.
  runs : Opening → List Row → ℕ → ℕ → ℤ → Edge

-- The run of "Frames", without its opening. Asked at 1 and at 0, giving back at −1 and giving up
-- at 0 are in it.
abbrev pub frames : List Row
frames =
    at (pos 1) Acquire 0 (plain 0x20)
    ∷ at (pos 1) Step 0 (plain 0x21)
    ∷ at (pos 0) Acquire 1 (plain 0x20)
    ∷ at (pos 0) Step 1 (plain 0x22)
    ∷ at (negsuc 0) Step 1 (with_number 0x23 0)
    ∷ at (negsuc 0) Step 1 (with_number 0x24 0)
    ∷ at (negsuc 0) Release 0 (plain 0x20)
    ∷ at (negsuc 0) Step 0 (plain 0x27)
    ∷ at (pos 0) Cancel 1 (plain 0x20)
    ∷ at (pos 0) Step 1 (plain 0x2F)
    ∷ at (pos 1) Step 0 (with_number 0x28 0)
    ∷ at (pos 1) Step 0 (with_number 0x2B 0)
    ∷ at (pos 1) Step 1 (with_number 0x33 0)
    ∷ []

-- Giving back at 0.
abbrev pub returned : List Row
returned =
    at (pos 1) Acquire 0 (plain 0x20)
    ∷ at (pos 1) Step 0 (plain 0x21)
    ∷ at (pos 0) Release 0 (plain 0x20)
    ∷ at (pos 0) Step 0 (plain 0x26)
    ∷ []

-- Giving up at −1.
abbrev pub withdrawn : List Row
withdrawn =
    at (pos 1) Acquire 0 (plain 0x20)
    ∷ at (pos 1) Step 0 (plain 0x21)
    ∷ at (pos 0) Acquire 1 (plain 0x20)
    ∷ at (pos 0) Step 1 (plain 0x22)
    ∷ at (negsuc 0) Step 1 (with_number 0x23 0)
    ∷ at (negsuc 0) Step 1 (with_number 0x24 0)
    ∷ at (negsuc 0) Cancel 1 (plain 0x20)
    ∷ at (negsuc 0) Step 1 (plain 0x2E)
    ∷ []

-- Party n, in each of the four calls, and party n − 1.
abbrev pub bounded : List Row
bounded =
    at (pos 1) Acquire 3 (plain 0x04)
    ∷ at (pos 1) Step 3 (plain 0x04)
    ∷ at (pos 1) Cancel 3 (plain 0x04)
    ∷ at (pos 1) Release 3 (plain 0x04)
    ∷ at (pos 1) Acquire 2 (plain 0x20)
    ∷ at (pos 1) Step 2 (plain 0x21)
    ∷ at (pos 0) Cancel 2 (plain 0x09)
    ∷ at (pos 0) Release 2 (plain 0x20)
    ∷ []

-- First in, first out, with radios 0A and 0B: party 0 puts back what it took, and party 1 takes the other one.
abbrev pub in_turn : List Row
in_turn =
    at (pos 2) Acquire 0 (plain 0x20)
    ∷ at (pos 2) Step 0 (plain 0x21)
    ∷ at (pos 1) Op.Radio 0 (plain 0x39)
    ∷ at (pos 1) Step 0 (plain 0x36)
    ∷ at (pos 1) Op.Radio 0 (with_number 0x39 0x0A)
    ∷ at (pos 1) Release 0 (plain 0x20)
    ∷ at (pos 1) Step 0 (plain 0x26)
    ∷ at (pos 2) Op.Radio 0 (with_number 0x39 0x0A)
    ∷ at (pos 2) Step 0 (plain 0x38)
    ∷ at (pos 2) Op.Radio 0 (plain 0x39)
    ∷ at (pos 2) Acquire 1 (plain 0x20)
    ∷ at (pos 2) Step 1 (plain 0x21)
    ∷ at (pos 1) Step 1 (plain 0x36)
    ∷ at (pos 1) Op.Radio 1 (with_number 0x39 0x0B)
    ∷ at (pos 1) Op.Radio 3 (plain 0x04)
    ∷ []

-- 37: party 0's permit is the counter's, and its radio not yet the store's.
abbrev pub not_yet : List Row
not_yet =
    at (pos 1) Acquire 0 (plain 0x20)
    ∷ at (pos 1) Step 0 (plain 0x21)
    ∷ at (pos 0) Step 0 (plain 0x36)
    ∷ at (pos 0) Release 0 (plain 0x20)
    ∷ at (pos 0) Step 0 (plain 0x26)
    ∷ at (pos 1) Acquire 1 (plain 0x20)
    ∷ at (pos 1) Step 1 (plain 0x21)
    ∷ at (pos 0) Step 1 (plain 0x37)
    ∷ at (pos 0) Step 0 (plain 0x38)
    ∷ at (pos 0) Step 1 (plain 0x36)
    ∷ at (pos 0) Op.Radio 1 (with_number 0x39 0x2F)
    ∷ []

-- Giving up early: party 1 in asked, party 2 in numbered, each once; where a wait would begin it is given up. Party
-- 0, given up early too, got its permit first.
abbrev pub cancelled_early : List Row
cancelled_early =
    at (pos 1) Acquire 0 (plain 0x20)
    ∷ at (pos 1) Cancel 0 (plain 0x20)
    ∷ at (pos 1) Step 0 (plain 0x21)
    ∷ at (pos 0) Cancel 0 (plain 0x09)
    ∷ at (pos 0) Acquire 1 (plain 0x20)
    ∷ at (pos 0) Cancel 1 (plain 0x20)
    ∷ at (pos 0) Cancel 1 (plain 0x09)
    ∷ at (pos 0) Step 1 (plain 0x22)
    ∷ at (negsuc 0) Step 1 (with_number 0x23 0)
    ∷ at (negsuc 0) Acquire 2 (plain 0x20)
    ∷ at (negsuc 0) Step 2 (plain 0x22)
    ∷ at (negsuc 1) Step 2 (with_number 0x23 1)
    ∷ at (negsuc 1) Cancel 2 (plain 0x20)
    ∷ at (negsuc 1) Step 1 (with_number 0x24 0)
    ∷ at (negsuc 1) Cancel 1 (plain 0x09)
    ∷ at (negsuc 1) Step 1 (plain 0x2E)
    ∷ at (negsuc 0) Step 1 (with_number 0x30 0)
    ∷ at (negsuc 0) Step 2 (with_number 0x24 1)
    ∷ at (negsuc 0) Step 2 (plain 0x2E)
    ∷ at (pos 0) Step 2 (with_number 0x30 1)
    ∷ at (pos 0) Acquire 1 (plain 0x20)
    ∷ at (pos 0) Step 1 (plain 0x22)
    ∷ at (negsuc 0) Step 1 (with_number 0x23 2)
    ∷ at (negsuc 0) Step 1 (with_number 0x24 2)
    ∷ []

-- A party 0 of kind 3 may not give up, and a party 1 of kind 1 may.
abbrev pub by_own_kinds : List Row
by_own_kinds =
    at (pos 1) Acquire 2 (plain 0x20)
    ∷ at (pos 1) Step 2 (plain 0x21)
    ∷ at (pos 0) Acquire 0 (plain 0x20)
    ∷ at (pos 0) Cancel 0 (plain 0x0A)
    ∷ at (pos 0) Acquire 1 (plain 0x20)
    ∷ at (pos 0) Cancel 1 (plain 0x20)
    ∷ []

unfoldable pub edges : List Edge
edges =
    opens (sized 0 3) 0x02
    ∷ opens (sized 0 0) 0x02
    ∷ opens (sized 33 3) 0x02
    ∷ opens (sized 32 32) 0x1F
    ∷ opens (sized 1 0) 0x03
    ∷ opens (sized 1 3) 0x1F
    ∷ runs (sized 1 3) frames 0 0 (pos 1)
    ∷ runs (sized 1 3) returned 0 0 (pos 1)
    ∷ runs (sized 1 3) withdrawn 1 0 (pos 0)
    ∷ runs (sized 1 3) bounded 1 0 (pos 0)
    ∷ runs (sized 32 32) (at (pos 32) Acquire 32 (plain 0x04) ∷ at (pos 32) Acquire 31 (plain 0x20) ∷ []) 0 0
    (pos 32)
    ∷ opens (with_radios 2 3 (0x0A ∷ 0x0B ∷ [])) 0x1F
    ∷ opens (with_radios 2 3 (0x0A ∷ 0x0A ∷ [])) 0x0E
    ∷ opens (with_radios 2 0 (0x0A ∷ 0x0A ∷ [])) 0x03
    ∷ runs (with_radios 2 3 (0x0A ∷ 0x0B ∷ [])) in_turn 1 0 (pos 1)
    ∷ runs (with_radios 1 2 (0x2F ∷ [])) not_yet 1 0 (pos 0)
    ∷ runs (sized 1 3) (at (pos 1) Op.Radio 0 (plain 0x39) ∷ []) 0 0 (pos 1)
    ∷ runs (sized 1 3) cancelled_early 1 1 (negsuc 0)
    ∷ opens (with_kinds (replicate 32 0) (sized 1 3)) 0x1F
    ∷ opens (with_kinds (replicate 31 0) (sized 1 3)) 0x0F
    ∷ opens (with_kinds (replicate 33 0) (sized 1 3)) 0x0F
    ∷ opens (with_kinds (replicate 31 4) (sized 1 3)) 0x0F
    ∷ opens (with_kinds (4 ∷ []) (sized 0 3)) 0x02
    ∷ opens (with_kinds (0 ∷ []) (sized 1 0)) 0x03
    ∷ opens (with_kinds (4 ∷ []) (with_radios 2 3 (0x0A ∷ 0x0A ∷ []))) 0x0E
    ∷ opens (with_kinds (replicate 31 0 ++ (4 ∷ [])) (sized 1 3)) 0x10
    ∷ opens (with_kinds (replicate 32 4) (sized 1 3)) 0x10
    ∷ opens (with_kinds (replicate 32 3) (sized 1 3)) 0x11
    ∷ runs (with_kinds (3 ∷ replicate 30 1 ++ (0 ∷ [])) (sized 1 3)) by_own_kinds 1 0 (pos 0)
    ∷ []

-- Two counters, and two answers, alike?
abbrev pub sameℤ : ℤ → ℤ → Bool
sameℤ (pos m) (pos n) = eqb m n
sameℤ (pos m) (negsuc n) = false
sameℤ (negsuc m) (pos n) = false
sameℤ (negsuc m) (negsuc n) = eqb m n

abbrev pub same_answer : Printed → Printed → Bool
same_answer a b = eqb a.code b.code && eqb a.woken b.woken && eqb a.number b.number

-- Does the run go so, from this record, and end with these holders, waiting parties and counter?
unfoldable pub goes : ℕ → ℕ → ℤ → Hub → List Row → Bool
goes a b z h [] =
    eqb (count holds (phases_of h.slots)) a && eqb (count is_waiting (phases_of h.slots)) b
    && sameℤ h.control.figures.counter z
goes a b z h (r ∷ rs) =
    let o = called h r.call in
    sameℤ h.control.figures.counter r.counter && same_answer (printed o.answer) r.answer
    && goes a b z o.hub rs

unfoldable pub holds_at : Edge → Bool
holds_at (opens o c) = eqb (printed (opening o).answer).code c
holds_at (runs o rs a b z) = goes a b z (opening o).hub rs

unfoldable pub all_hold : List Edge → Bool
all_hold [] = true
all_hold (e ∷ es) = holds_at e && all_hold es

unfoldable pub EdgesHold : Type 0
EdgesHold = all_hold edges ≡ true
