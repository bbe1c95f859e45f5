-- Why every execution of the listings is one of the queue.
pub mod Onward  -- what no event undoes
pub mod Kept  -- what an event owes
pub mod Requests  -- what a line and a request say of the phase
pub mod Answered  -- what a call leaves and answers
pub mod Rows  -- the kinds of action
pub mod Counted  -- actions outside of cells
pub mod Celled  -- actions at a thread's own cell
pub mod Handed  -- actions of resume(..)
pub mod Events  -- every event
pub mod Executions  -- every execution
