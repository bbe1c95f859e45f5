-- What the proofs of this crate and of sessions share.
pub mod Appended
pub mod Sizes
pub mod Opening
