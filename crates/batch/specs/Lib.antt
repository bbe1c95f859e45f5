-- Requests of an open hub, answered one after the other on a record that is known to fit.
pub mod Batch
