-- The 1523 bytes of a record.
use Rattle.std.specs.Prelude.{ℕ, ◌%◌, Bool, cond, List, [], ◌∷◌, ◌++◌, get_or}
use Rattle.hub.specs.declared.record.Phase.{Phase}
use Rattle.hub.specs.Phases.{is_one_of, of_radios, resumes, ticket_of}
use Rattle.hub.specs.declared.record.Phase.TheVariants.{Acquiring, AcquiringMarked}
use Rattle.hub.specs.Record.{PARTIES}
use Rattle.latch.specs.declared.record.Latch.{Latch}
use Rattle.latch.specs.declared.record.LatchSlot.{LatchSlot}
use Rattle.latch.specs.Record.{free_slot}
use Rattle.cells.specs.Bytes.{bytes_of_all, each, four_of}
use Rattle.cells.specs.Phases.{mark_of, phase_name}
use Rattle.cells.specs.Places.{place_bytes}

-- n, the figures, and the first ticket that has a place: 19 bytes.
abbrev pub figure_bytes : Latch → List ℕ
figure_bytes h =
    (h.parties ∷ h.figures.count % 256 ∷ h.figures.waiters % 256 ∷ [])
    ++ four_of h.figures.issued
    ++ four_of h.figures.resumed
    ++ four_of h.figures.begun
    ++ four_of h.oldest

-- The phases of radios are written as holding, which fits no more than they do. Asked is raising, 14, where more is
-- said beside it.
abbrev pub name_of : Phase → Bool → ℕ
name_of f raising =
    cond (of_radios f) 1 (cond (is_one_of (Acquiring ∷ AcquiringMarked ∷ []) f) (cond raising 14 3) (phase_name f))

-- The parties: 32 times a phase and a ticket; apart from them the hand-overs left, which count where a party carries
-- or hands, and the marks.
abbrev pub phase_bytes : List LatchSlot → List ℕ
phase_bytes l = bytes_of_all (λ s. name_of s.phase s.raising ∷ four_of (ticket_of s.phase)) l

abbrev pub left_bytes : List LatchSlot → List ℕ
left_bytes l =
    each PARTIES (λ p. cond (resumes (get_or l p free_slot).phase) ((get_or l p free_slot).left % 256) 0)

abbrev pub mark_bytes : List LatchSlot → List ℕ
mark_bytes l = each PARTIES (λ p. mark_of (get_or l p free_slot).phase)

abbrev pub record_bytes : Latch → List ℕ
record_bytes h =
    figure_bytes h
    ++ place_bytes h.places
    ++ phase_bytes h.slots
    ++ left_bytes h.slots
    ++ mark_bytes h.slots
