-- Document 01 and the requests as definitions: with the types of src/, what a reader has to believe. The lines of
-- the schedule program (refusals 12 and 13, the closing line) are not the hub's.
pub mod Basics  -- counting and testing
pub mod Answers  -- codes, woken party and number
pub mod Kinds
pub mod Record  -- "The hub's record"
pub mod Phases
pub mod Ring  -- the places, and the tidying
pub mod Radios  -- "Radios by name"
pub mod Look  -- what a call looks at
pub mod Moves  -- what it does
pub mod Table  -- "Four calls", and call 14
pub mod Opening  -- "When the hub says no", for openings
pub mod Fits  -- "A record that fits"
pub mod Calls  -- "When the hub says no", for calls
pub mod Schedule  -- a list of calls
pub mod Ledger  -- "Counting links"
pub mod Demand3  -- the third demand
pub mod RadiosKept  -- no radio is in two hands or in none
pub mod Counts  -- what a record shows
pub mod Calm  -- how long until calm
pub mod OwnKinds  -- "A house's own kinds"
pub mod Widths  -- "Smaller records on the boards"
pub mod Queue  -- document 000's semaphore, and the hub beside it
pub mod Refinement
