-- What the ways of calling speak of besides the definitions of the crates hub and table.
pub mod Tidied
pub mod Room
