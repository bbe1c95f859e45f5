-- Operations as bytes, two each, and their answers, three each.
pub mod Bytes
pub mod Rested
