-- A record of a latch as 1523 bytes.
pub mod Read  -- which record the bytes are
pub mod Written  -- which bytes a record is
