-- "A house's own kinds": no call changes them, and the old table gives what it gave. The hub as it was before is
-- told here by its two differences: the constant table decided, and nothing was asked of kinds.
use Rattle.std.specs.Prelude.{ℕ, ◌≡◌, Bool, true, List, [], ◌∷◌, ltb}
use Rattle.hub.specs.declared.answers.Answer.{Answer}
use Rattle.hub.specs.declared.moves.Call.{Call}
use Rattle.hub.specs.declared.moves.Sight.{Sight}
use Rattle.hub.specs.declared.opening.Opening.{Opening}
use Rattle.hub.specs.declared.record.Hub.{Hub}
use Rattle.hub.specs.declared.record.Outcome.{Outcome}
use Rattle.hub.specs.Answers.{printed}
use Rattle.hub.specs.Calls.{answer_of, apply, called, checked, is_full}
use Rattle.hub.specs.Fits.{state_fits}
use Rattle.hub.specs.Kinds.{built_in, has_desk, kind_in, kinds_known}
use Rattle.hub.specs.Look.{look, with_kind}
use Rattle.hub.specs.Opening.{link_tests, opening, opening_if}
use Rattle.hub.specs.Radios.{pool_after}
use Rattle.hub.specs.Schedule.{answers, run}
use Rattle.hub.specs.Table.{decide}
use Rattle.hub.specs.Record.{with_pool}

-- No schedule changes the kinds.
unfoldable pub KindsKept : Type 0
KindsKept = (h : Hub) (cs : List Call) → (run h cs).control.opening.kinds ≡ h.control.opening.kinds

-- The old table meets neither 16 nor 17.
unfoldable pub OldTableFits : Type 0
OldTableFits = (kinds_known built_in ≡ true) × (has_desk built_in ≡ true)

-- An opening with the built-in table, given or not.
pub record WithoutKinds (o : Opening) : Type 0 where
  pub kinds : o.kinds ≡ built_in
  pub counted : o.counted ≡ true

-- Opening a hub was refused by 2, 3 and 14.
abbrev pub opening_before : Opening → Outcome
opening_before o = opening_if (link_tests o) o

-- A party's kind was that of the table, whatever kinds the record holds.
abbrev pub look_before : Hub → ℕ → Sight
look_before h p = with_kind (kind_in built_in p) (look h p)

-- A call by what was found of the record, and by what it looked at.
abbrev pub called_by : Bool → Sight → Hub → Call → Outcome
called_by fit s h c =
    let full = is_full h.control.oldest h.control.figures.issued h.slots in
    let m = checked fit (ltb c.party h.control.opening.parties) (decide c.op full s) in
    record {
      answer = answer_of m;
      hub = with_pool (pool_after h.control.opening.named (printed (answer_of m)) c.party h.control.pool) (apply h s m);
    }

unfoldable pub called_before : Hub → Call → Outcome
called_before h c = called_by (state_fits h) (look_before h c.party) h c

-- On every record with the built-in table, reached or not, a call is what it was.
unfoldable pub CallsAsBefore : Type 0
CallsAsBefore = (h : Hub) → WithoutKinds h.control.opening → (c : Call) → called h c ≡ called_before h c

unfoldable pub answers_before : Hub → List Call → List Answer
answers_before h [] = []
answers_before h (c ∷ cs) = (called_before h c).answer ∷ answers_before (called_before h c).hub cs

unfoldable pub run_before : Hub → List Call → Hub
run_before h [] = h
run_before h (c ∷ cs) = run_before (called_before h c).hub cs

-- A hub opened without kinds is opened as it was, and answers and leaves over every schedule what it did.
pub record LikeBefore (o : Opening) (cs : List Call) : Type 0 where
  pub opened : opening o ≡ opening_before o
  pub answered : answers (opening o).hub cs ≡ answers_before (opening_before o).hub cs
  pub left : run (opening o).hub cs ≡ run_before (opening_before o).hub cs

unfoldable pub AsBefore : Type 0
AsBefore = (o : Opening) → WithoutKinds o → (cs : List Call) → LikeBefore o cs
