-- "Frames": calls and answers as bytes, and as characters.
pub mod Frame  -- calls and answers as bytes
pub mod Hex  -- bytes as characters
pub mod Form  -- text or bytes
pub mod Tables  -- what the tables of digits hold
