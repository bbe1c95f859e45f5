-- "A line its moves never reach" is refused by 1; this is one that they reach, clause by clause.
use Rattle.std.specs.Prelude.{ℕ, Bool, List, [], ◌∷◌, ◌++◌, eqb, leb, ltb, drop, length}
use Rattle.hub.specs.Basics.{all_of, all_pass, implies, up_to32}
use Rattle.hub.specs.Kinds.{has_desk, kinds_known}
use Rattle.hub.specs.Radios.{differ}
use Rattle.hub.specs.Record.{PARTIES}
use Rattle.screen.specs.declared.record.Line.{Line}
use Rattle.screen.specs.Line.{holders, waiters}

-- Everybody on the line.
abbrev pub everybody : Line → List ℕ
everybody l = holders l ++ waiters l

-- How many hold.
abbrev pub holder_count : Line → ℕ
holder_count l = length (holders l)

-- K and n are 1 to 32; the parties on the line are different, and below n; at most K hold, and nobody waits
-- unless K do. The unused bytes of the queue are 0. The kinds meet neither 16 nor 17.
abbrev pub line_clauses : Line → List Bool
line_clauses l =
    up_to32 l.permits
    ∷ up_to32 l.parties
    ∷ leb l.waiting PARTIES
    ∷ differ (everybody l)
    ∷ all_pass (λ p. ltb p l.parties) (everybody l)
    ∷ leb (holder_count l) l.permits
    ∷ implies (leb 1 l.waiting) (eqb (holder_count l) l.permits)
    ∷ all_pass (λ b. eqb b 0) (drop l.waiting l.queue)
    ∷ kinds_known l.kinds
    ∷ has_desk l.kinds
    ∷ []

unfoldable pub line_fits : Line → Bool
line_fits l = all_of (line_clauses l)
