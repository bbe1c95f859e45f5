-- "Smaller records on the boards": a place keeps its party in a byte, where it had 32 bits. The width is that
-- of the type in src/, which can hold no other record. The definitions of the calls know numbers alone and no
-- width, so that they are the same before and after. Here a record is written to places of a width and read
-- from them.
use Rattle.std.specs.Prelude.{ℕ, ◌%◌, true, map, ◌≡◌, leb, get_or}
use Rattle.hub.specs.declared.moves.Call.{Call}
use Rattle.hub.specs.declared.record.Hub.{Hub}
use Rattle.hub.specs.declared.record.Outcome.{Outcome}
use Rattle.hub.specs.declared.record.Place.{Place}
use Rattle.hub.specs.declared.record.Place.TheVariants.{Empty, Waiting as WaitedBy, Permit}
use Rattle.hub.specs.declared.record.Place.TheVariants.{Cancelled, Refused, Done}
use Rattle.hub.specs.Calls.{called}
use Rattle.hub.specs.Phases.{by_waiter}
use Rattle.hub.specs.Record.{empty_seat, with_place, with_places}

-- How many parties there is room for: in 32 bits, and in a byte.
abbrev pub WORD : ℕ
WORD = 4294967296

abbrev pub BYTE : ℕ
BYTE = 256

-- A place that was written where there is room for n parties: the party is kept modulo n.
abbrev pub written_in : ℕ → Place → Place
written_in n =
    elim [
      | Empty ↦ Empty
      | WaitedBy q ↦ WaitedBy (q % n)
      | Permit ↦ Permit
      | Cancelled ↦ Cancelled
      | Refused ↦ Refused
      | Done ↦ Done
    ]

-- The record, each of its places so.
abbrev pub kept_in : ℕ → Hub → Hub
kept_in n h = with_places (map (λ s. with_place (written_in n s.place) s) h.places) h

-- A call on a board with such places: it reads them, and writes them.
abbrev pub called_in : ℕ → Hub → Call → Outcome
called_in n h c =
    let o = called (kept_in n h) c in
    record { answer = o.answer; hub = kept_in n o.hub }

-- All places hold parties up to m.
abbrev pub UpTo : ℕ → Hub → Type 0
UpTo m h = (i : ℕ) → by_waiter true (λ q. leb q m) (get_or h.places i empty_seat).place ≡ true

-- A call that answers and leaves with places of a byte what it did with places of 32 bits, and both times what
-- the definition says; its record is again one of such parties, so that the next call is so too.
pub record SameIn (h : Hub) (c : Call) : Type 0 where
  pub word : called_in WORD h c ≡ called h c
  pub byte : called_in BYTE h c ≡ called h c
  pub again : UpTo 255 (called h c).hub

-- On every record whose places hold parties up to 255, each call is such a call.
unfoldable pub SameCalls : Type 0
SameCalls = (h : Hub) → UpTo 255 h → (c : Call) → SameIn h c

-- A larger party can no longer be written.
unfoldable pub NoLarger : Type 0
NoLarger = (h : Hub) → UpTo 255 (kept_in BYTE h)
