-- Why the hub's schedules are executions of the listings, and the other way round.
pub mod Listings
