-- A run of whole operations from bytes to bytes.
pub mod Ending
