-- The plain line: the parties that hold, and those that wait in their order.
use Rattle.std.specs.Prelude.{ℕ, suc, Bool, false, cond, List, [], ◌∷◌, eqb, get_or, length, replicate, take}
use Rattle.hub.specs.declared.opening.Opening.{Opening}
use Rattle.hub.specs.Basics.{among}
use Rattle.hub.specs.Radios.{padded}
use Rattle.hub.specs.Record.{PARTIES}
use Rattle.screen.specs.declared.record.Line.{Line}

-- Of an opening the line keeps K, n, whether there are radios, and the kinds. Nobody holds and nobody waits.
unfoldable pub opened_line : Opening → Line
opened_line o =
    record {
      permits = o.permits;
      parties = o.parties;
      named = o.named;
      kinds = o.kinds;
      holding = replicate PARTIES false;
      queue = replicate PARTIES 0;
      waiting = 0;
    }

-- Those of the parties from p on that hold, rising.
unfoldable pub holders_from : ℕ → List Bool → List ℕ
holders_from p [] = []
holders_from p (b ∷ bs) = let r = holders_from (suc p) bs in cond b (p ∷ r) r

unfoldable pub holders : Line → List ℕ
holders l = holders_from 0 l.holding

-- Those that wait, in their order.
unfoldable pub waiters : Line → List ℕ
waiters l = take l.waiting l.queue

-- The place of the first x in a list; its length if x is not there.
unfoldable pub place_of : ℕ → List ℕ → ℕ
place_of x [] = 0
place_of x (y ∷ l) = cond (eqb x y) 0 (suc (place_of x l))

-- Does party p hold; does it wait?
unfoldable pub holds_in : Line → ℕ → Bool
holds_in l p = get_or l.holding p false

unfoldable pub waits_in : Line → ℕ → Bool
waits_in l p = among (waiters l) p

-- The line with other holders, and with others that wait: behind them the queue is 0.
abbrev pub with_holding : List Bool → Line → Line
with_holding hs l =
    record {
      permits = l.permits;
      parties = l.parties;
      named = l.named;
      kinds = l.kinds;
      holding = hs;
      queue = l.queue;
      waiting = l.waiting;
    }

abbrev pub with_waiters : List ℕ → Line → Line
with_waiters ws l =
    record {
      permits = l.permits;
      parties = l.parties;
      named = l.named;
      kinds = l.kinds;
      holding = l.holding;
      queue = padded ws;
      waiting = length ws;
    }
