-- The bytes that whole operations are answered with are what the screen tells of them.
pub mod Told
