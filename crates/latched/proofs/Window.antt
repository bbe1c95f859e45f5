-- Why the latch answers as the unbounded queue does, and why every record that it reaches fits.
pub mod Shown
pub mod Moved
pub mod Reached
pub mod Followed
