-- What is claimed of calls on any record of a hub.
pub mod EarlyCancel  -- "Giving up early"
pub mod LeavesRecord  -- what leaves the record as it came
pub mod FilledInOrder  -- "Radios by name"
