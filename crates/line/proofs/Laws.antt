-- What the proofs of this crate share.
pub mod Codes
pub mod Lines
pub mod Decoding
pub mod Openings
pub mod Schedules
