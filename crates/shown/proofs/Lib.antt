-- Why the screen shows what the hub comes to.
pub mod Parties  -- lists of parties
pub mod Waiters  -- those that wait, when one comes or leaves
pub mod Rest  -- a hub at rest
pub mod Seen  -- a line that shows a record
pub mod Moves  -- one operation
pub mod Shows  -- lists of operations
pub mod OneWay  -- no other steps
