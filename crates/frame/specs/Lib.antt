-- A whole input, read in pieces.
pub mod Session
