-- Why the hub answers as the unbounded queue does, and why every record that it reaches fits.
-- of phases, cells, places and numbers alone, so that the latch uses them too
pub mod Ring
pub mod Tracked
pub mod Tidied
pub mod Fitting
-- of the hub's record
pub mod Shown
pub mod Moved
pub mod Reached
pub mod Followed
