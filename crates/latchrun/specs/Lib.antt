-- A run of a latch from bytes to bytes: two for each call, seven for each answer.
pub mod Bytes
pub mod Run
