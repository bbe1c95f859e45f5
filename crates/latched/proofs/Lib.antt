-- Why what is claimed of every schedule of a latch holds.
pub mod Invariant  -- of the unbounded queue
pub mod Window  -- the record beside it
pub mod Claims  -- the claims
