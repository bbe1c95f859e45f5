-- Laws that several proofs cite.
pub mod Ops
pub mod Counting
pub mod Sight
pub mod Stored
pub mod Indexed
pub mod Called
