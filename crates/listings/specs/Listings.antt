-- The second demand on document 000's own listings: they are a machine here, every schedule of the hub is an
-- execution of it, and every execution of it is one of the unbounded queue.
pub mod Machine  -- listings 1, 2, 6 and 15
pub mod Words  -- what an action says, in document 01's answers
pub mod Execution  -- the actions that an answer stands for
pub mod Shown  -- the state that a record shows, and the claim
pub mod Converse  -- the other way round
pub mod Edges  -- document 01's run, and a line read to the letter
