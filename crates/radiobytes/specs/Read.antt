-- What a hub was opened with, and its radios, as 1881 bytes say it.
use Rattle.std.specs.Prelude.{ℕ, ◌+◌, ◌-◌, ◌%◌, true, List, eqb, get_or}
use Rattle.hub.specs.declared.opening.Opening.{Opening}
use Rattle.hub.specs.declared.record.Pool.{Pool}
use Rattle.hub.specs.Radios.{STORE}
use Rattle.cells.specs.Bytes.{bytes_at, each}

-- What it was opened with: K, n, whether there are radios, those of the opening, the kinds.
abbrev pub opening_of_bytes : List ℕ → Opening
opening_of_bytes b =
    record {
      permits = get_or b 0 0;
      parties = get_or b 1 0;
      named = eqb (get_or b 1462 0 % 2) 1;
      radios = bytes_at b 1463 32;
      kinds = bytes_at b 1849 32;
      counted = true;
    }

-- A ring that begins at `first`, from its radios in order.
abbrev pub rotated : List ℕ → ℕ → List ℕ
rotated rs first = each STORE (λ j. get_or rs ((j + 32 - first % 32) % 32) 0)

-- With parties, at places, and stored.
abbrev pub pool_in : List ℕ → Pool
pool_in b =
    record {
      hands = bytes_at b 1495 32;
      laid = bytes_at b 1527 256;
      store = rotated (bytes_at b 1785 32) (get_or b 1783 0);
      first = get_or b 1783 0;
      stored = get_or b 1784 0 % 33;
    }
