-- The laws of one call, however the record is held.
pub mod Ops
pub mod Sight  -- what a call looks at
pub mod Unseen  -- and what it does not
pub mod Loops  -- the tidying's loops
pub mod Stored  -- what is stored of an effect
pub mod Radios  -- what the check of the radios says, and whether they move
pub mod Called  -- a whole call
pub mod Indexed  -- the indices of the code
