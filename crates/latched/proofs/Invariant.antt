-- An invariant of the unbounded queue: the hub's of tickets and cells, and the latch's counters beside it.
pub mod Weights
pub mod Keep
pub mod Rows
pub mod Walk
pub mod Schedules
pub mod Rest
