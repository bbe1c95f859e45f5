-- What the function of this crate decides.
pub mod Step
