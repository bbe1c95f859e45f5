-- A move laid out flat, with what was seen where it changes nothing.
use Rattle.std.specs.Prelude.{ℕ, Bool}
use Rattle.hub.specs.declared.answers.Answer.{Answer}
use Rattle.hub.specs.declared.record.PlaceSlot.{PlaceSlot}
use Rattle.hub.specs.Record.{PARTIES}
use Rattle.hub.specs.Ring.{PLACES}
use Rattle.latch.specs.declared.moves.LatchOp.{LatchOp}
use Rattle.latch.specs.declared.moves.LatchSight.{LatchSight}
use Rattle.latch.specs.declared.record.LatchSlot.{LatchSlot}
use Rattle.latch.specs.Moves.{Change, Move, Refuse, Act, Put, Wake}
use Rattle.latch.specs.Table.{decide}
use Rattle.latcheffect.specs.declared.effect.LatchEffect.{LatchEffect}

-- A change, the waiter q with its slot, and the place.
abbrev pub flat : ℕ → LatchSlot → PlaceSlot → Change → LatchEffect
flat q x a c =
    record {
      turns = PLACES;
      woken = q;
      waiter = x;
      slot = c.slot;
      seat = a;
      figures = c.figures;
      answer = c.answer;
    }

abbrev pub effect_of : Move → LatchSight → LatchEffect
effect_of (Refuse r) s =
    record {
      turns = 0;
      woken = PARTIES;
      waiter = s.waiter;
      slot = s.slot;
      seat = s.seat;
      figures = s.figures;
      answer = Answer.Refused r;
    }
effect_of (Act c) s = flat PARTIES s.waiter s.seat c
effect_of (Put a c) s = flat PARTIES s.waiter a c
effect_of (Wake q x a c) s = flat q x a c

-- What is decided of a call. It is shut: whoever calls the code need not carry the four forms along.
unfoldable pub effect_by : LatchOp → Bool → LatchSight → LatchEffect
effect_by o full s = effect_of (decide o full s) s
