-- What the functions of this crate speak of besides the definitions of the crate latch.
pub mod Small
pub mod Effect
