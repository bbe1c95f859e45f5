-- M-110, the desk screen: the plain line, its moves, and the steps that the hub takes for one.
pub mod Line
pub mod Codes
pub mod Fits  -- a line that its moves reach
pub mod Moves
pub mod Steps
pub mod Reached
