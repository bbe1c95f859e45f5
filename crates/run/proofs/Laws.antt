-- What the proofs of this crate share.
pub mod Pairs
pub mod Answers
pub mod Endings
