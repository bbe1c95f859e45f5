-- Why an operation comes to its closed form on a hub at rest.
pub mod Ring  -- the tidying
pub mod Rest  -- what is known of a hub at rest
pub mod Reached  -- and why
pub mod Waits  -- who waits there
pub mod Walk  -- one party until it is at rest
pub mod Calls  -- single calls
pub mod Shapes  -- whole operations, one of each kind
pub mod Operations  -- every operation
