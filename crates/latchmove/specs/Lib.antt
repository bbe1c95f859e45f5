-- What the ways of calling speak of besides the definitions of the crates latch and latcheffect.
pub mod Tidied
pub mod Room
