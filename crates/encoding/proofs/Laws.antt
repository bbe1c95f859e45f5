-- What the proofs of this crate and of those above it share.
pub mod Tables
pub mod Filled
pub mod Parts
