-- A party without a ticket acts on no place and looks at none: whatever it is shown there, it does the same.
use mathlib.Core.Path.{◌≡◌, refl, sym, ap, ◌∙◌}
use mathlib.Core.Bool.{Bool, true, false, cond}
use Rattle.hub.specs.declared.moves.Op.{Op}
use Rattle.hub.specs.declared.moves.Sight.{Sight}
use Rattle.hub.specs.declared.record.PartySlot.{PartySlot}
use Rattle.hub.specs.declared.record.Phase.{Phase}
use Rattle.hub.specs.declared.record.PlaceSlot.{PlaceSlot}
use Rattle.hub.specs.Look.{with_view}
use Rattle.hub.specs.Moves.{Move, Refuse, Tell, Act, Put, Wake}
use Rattle.hub.specs.Phases.{is_waiting}
use Rattle.hub.specs.Table.{RowTests, acquire, cancel, decide, release, step_in, tell_radio, row_tests_of}
use Rattle.hub.proofs.Laws.Enums.{Each}
use Rattle.hub.proofs.Laws.Phases.{ticketed}
use Rattle.hub.proofs.Laws.Rows.{other_rows, others-alike, open_row_lem, open_row, rows_alike}

-- Does a move change a place?
abbrev pub touches : Move → Bool
touches (Refuse r) = false
touches (Tell y) = false
touches (Act c) = false
touches (Put a c) = true
touches (Wake q x a c) = true

-- The sight with another place and another waiter.
module _ (a : PlaceSlot) (w : PartySlot) where
  abbrev pub shown : Sight → Sight
  shown s = with_view a w s

  -- A row that does not look there.
  abbrev Blind : (Sight → Move) → Sight → Type 0
  Blind f s = (f (shown s) ≡ f s) × (touches (f s) ≡ false)

  module _ (s : Sight) where
    -- What a row does there and whether it touches a place, beside what it does and that it does not.
    abbrev there : (Sight → Move) → Move × Bool
    there r = (r (shown s), touches (r s))

    abbrev here : (Sight → Move) → Move × Bool
    here r = (r s, false)

    blind : {x y : Move} {b : Bool} → ◌≡◌ {A = Move × Bool} (x, b) (y, false) → (x ≡ y) × (b ≡ false)
    blind e = (ap (λ z. z.0) e, ap (λ z. z.1) e)

    -- What the tests say there.
    abbrev tests_there : RowTests → RowTests
    tests_there v =
        record {
          above = v.above;
          below = v.below;
          stocked = v.stocked;
          place = a.place;
          waits = is_waiting w.phase;
        }

    stepping : (f : Phase) → ticketed f ≡ false → Blind (step_in f) s
    unfolding open_row
    stepping f e =
        let z =
        rows_alike {A = Move × Bool}
        (λ f v. cond (ticketed f) (here (open_row f v)) (open_row f (tests_there v) (shown s), touches (open_row f v s)))
        (λ f v. here (open_row f v)) (λ t q. refl) f (row_tests_of s) in
        let y = blind (rw e at z) in
        (open_row_lem f (row_tests_of (shown s)) (shown s) ∙ y.0 ∙ sym (open_row_lem f (row_tests_of s) s), ap touches (open_row_lem f (row_tests_of s) s) ∙ y.1)

    others : (x : Phase) (b c d : Bool) → Each (λ r. there r ≡ here r) (other_rows x b c d)
    unfolding acquire cancel release tell_radio
    others = others-alike there here (λ x. refl)

    pub unseen : (o : Op) (full : Bool) → ticketed s.slot.phase ≡ false → Blind (decide o full) s
    unfolding decide
    unseen Op.Acquire full e = blind (others Phase.Free _ _ full).0
    unseen Op.Step full e = stepping s.slot.phase e
    unseen Op.Cancel full e = blind (others _ _ _ full).1.0
    unseen Op.Release full e = blind (others Phase.Free _ full full).1.1.0
    unseen Op.Radio full e = blind (others Phase.Free _ full full).1.1.1.0
