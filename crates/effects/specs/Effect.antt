-- A move laid out flat, with what was seen where it changes nothing.
use Rattle.std.specs.Prelude.{ℕ}
use Rattle.hub.specs.declared.answers.Answer.{Answer}
use Rattle.hub.specs.declared.moves.Sight.{Sight}
use Rattle.hub.specs.declared.record.PartySlot.{PartySlot}
use Rattle.hub.specs.declared.record.PlaceSlot.{PlaceSlot}
use Rattle.hub.specs.Moves.{Change, Move, Refuse, Tell, Act, Put, Wake}
use Rattle.hub.specs.Record.{PARTIES}
use Rattle.hub.specs.Ring.{PLACES}
use Rattle.effects.specs.declared.effect.Effect.{Effect}

-- A change, the waiter q with its slot, and the place.
abbrev pub flat : ℕ → PartySlot → PlaceSlot → Change → Effect
flat q x a c =
    record {
      turns = PLACES;
      woken = q;
      waiter = x;
      slot = c.slot;
      seat = a;
      figures = c.figures;
      answer = c.answer;
    }

-- An answer that changes nothing.
abbrev pub still : Answer → Sight → Effect
still y s =
    record {
      turns = 0;
      woken = PARTIES;
      waiter = s.waiter;
      slot = s.slot;
      seat = s.seat;
      figures = s.figures;
      answer = y;
    }

abbrev pub effect_of : Move → Sight → Effect
effect_of (Refuse r) s = still (Answer.Refused r) s
effect_of (Tell y) s = still y s
effect_of (Act c) s = flat PARTIES s.waiter s.seat c
effect_of (Put a c) s = flat PARTIES s.waiter a c
effect_of (Wake q x a c) s = flat q x a c
