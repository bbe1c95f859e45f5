-- Pools that are alike.
use Prim.Native.Nat.{ℕ, ◌+◌, ◌-◌, ◌%◌}
use mathlib.Core.Path.{◌≡◌}
use mathlib.Core.List.{List}
use native.Mathlib.Omega.{arith}
use lib.ListN.{get_or}
use Rattle.hub.specs.declared.record.Pool.{Pool}
use Rattle.hub.specs.Radios.{STORE, fetch, hand_to}

abbrev pub with_hands : List ℕ → Pool → Pool
with_hands l q =
    record { hands = l; laid = q.laid; store = q.store; first = q.first; stored = q.stored }

-- An index of the ring, taken modulo 32 before the sum too.
pub index_same : (a b : ℕ) → (a % STORE + b) % STORE ≡ (a + b) % STORE
index_same a b = omega arith

-- The store's first radio is with a party, and the store begins one later.
pub first_out : (q r : Pool) (p s : ℕ) → r ≡ hand_to p (get_or q.store (q.first % STORE) 0) q
    → s ≡ q.stored - 1
    → record {
      hands = r.hands;
      laid = r.laid;
      store = r.store;
      first = (q.first % STORE + 1) % STORE;
      stored = s;
    }
    ≡ fetch p q
first_out q r p s e j = rw (e, j, index_same q.first 1)
