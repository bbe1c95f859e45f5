-- The desk program: the whole output, and an input in pieces.
pub mod Session
