-- M-150, the count-down latch, as definitions: with the types of src/, what a reader has to believe. What it has as
-- the hub has it (phases, places, the ring and its tidying, answers, kinds) is the hub's.
pub mod Record  -- what is kept of a party
pub mod Look  -- what a call looks at
pub mod Moves  -- what it does
pub mod Table  -- the step table and the other calls
pub mod Opening  -- refusals 3 and 18
pub mod Fits  -- a record that fits
pub mod Calls  -- what is refused, and what a call leaves
pub mod Schedule  -- a list of calls
pub mod Ledger  -- what the calls and their answers tell
pub mod Edges  -- single cases
pub mod Queue  -- the latch over an unbounded queue
