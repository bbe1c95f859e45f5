-- A record of a hub as 1881 bytes.
pub mod Read  -- which record the bytes are
pub mod Written  -- which bytes a record is
