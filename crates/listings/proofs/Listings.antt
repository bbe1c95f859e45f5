-- The hub beside document 000's listings.
pub mod Cells  -- the listings' cells and requests
pub mod Kept  -- the queue beside the listings' state
pub mod Played  -- events played, and what they say
pub mod Known  -- what is known of a party's thread
pub mod Counted  -- the rows that count
pub mod Celled  -- the rows at the party's own place
pub mod Handed  -- a hand-over's rows
pub mod Calls  -- every call
pub mod Schedules  -- every schedule
pub mod Waits  -- who waits stands at the place of the ticket
pub mod Converse  -- every execution
pub mod Edges  -- they hold
