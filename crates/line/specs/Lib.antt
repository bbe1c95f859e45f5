-- "Frames, one a line": what the schedule program reads and prints.
pub mod Below  -- a number or none
pub mod Requests  -- what a line asks
pub mod Program  -- each line's answer, and the whole output
