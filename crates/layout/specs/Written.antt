-- The 1881 bytes of a record.
use Rattle.std.specs.Prelude.{ℕ, List, [], ◌∷◌, ◌++◌, get_or}
use Rattle.hub.specs.declared.record.Hub.{Hub}
use Rattle.hub.specs.declared.record.PartySlot.{PartySlot}
use Rattle.hub.specs.Phases.{ticket_of}
use Rattle.hub.specs.Record.{PARTIES, free_slot}
use Rattle.encoding.specs.Frame.{twos_complement}
use Rattle.cells.specs.Bytes.{bytes_of_all, each, four_of}
use Rattle.cells.specs.Phases.{mark_of, phase_name}
use Rattle.cells.specs.Places.{place_bytes}
use Rattle.radiobytes.specs.Written.{radio_bytes}

-- K, n, the figures, and the first ticket that has a place: 22 bytes.
abbrev pub figure_bytes : Hub → List ℕ
figure_bytes h =
    (h.control.opening.permits ∷ h.control.opening.parties ∷ [])
    ++ four_of (twos_complement h.control.figures.counter)
    ++ four_of h.control.figures.issued
    ++ four_of h.control.figures.resumed
    ++ four_of h.control.figures.begun
    ++ four_of h.control.oldest

-- The parties: 32 times a phase and a ticket; apart from them their marks.
abbrev pub phase_bytes : List PartySlot → List ℕ
phase_bytes l = bytes_of_all (λ s. phase_name s.phase ∷ four_of (ticket_of s.phase)) l

abbrev pub mark_bytes : List PartySlot → List ℕ
mark_bytes l = each PARTIES (λ p. mark_of (get_or l p free_slot).phase)

abbrev pub record_bytes : Hub → List ℕ
record_bytes h =
    figure_bytes h
    ++ place_bytes h.places
    ++ phase_bytes h.slots
    ++ radio_bytes h.control.opening h.slots h.places h.control.pool
    ++ mark_bytes h.slots
    ++ h.control.opening.kinds
