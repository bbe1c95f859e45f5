-- M-150, what is claimed of every schedule of a latch.
pub mod Claims  -- of the schedule alone
pub mod Refinement  -- beside the latch over an unbounded queue
