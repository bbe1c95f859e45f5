-- A whole input into a buffer.
pub mod Whole
