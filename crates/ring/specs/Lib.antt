-- The ring that the code hands on.
pub mod Code
