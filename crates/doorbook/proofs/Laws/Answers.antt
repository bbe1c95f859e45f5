-- The lock at a door, where there is one and where there is none.
use Prim.Native.Nat.{ℕ, ◌≤◌, ◌<◌}
use mathlib.Core.Path.{◌≡◌}
use mathlib.Core.List.{List}
use borrow.Author.Tests.{lt-ltb, le-ltb}
use lib.ListN.{get_or}
use Rattle.doorbook.specs.Book.{lock_at}

pub beyond : (book : List ℕ) (d : ℕ) → 199 < d → 0 ≡ lock_at book d
unfolding lock_at
beyond book d h = rw (lt-ltb _ _ h)

pub within : (book : List ℕ) (d : ℕ) → d ≤ 199 → get_or book d 0 ≡ lock_at book d
unfolding lock_at
within book d h = rw (le-ltb _ _ h)
