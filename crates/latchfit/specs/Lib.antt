-- What the check hands to the hub's.
pub mod Tickets
