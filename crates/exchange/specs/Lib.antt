-- One request: admitted or not, decided, written.
pub mod Admission  -- what is answered before the table is asked
pub mod Decision
pub mod Wire
