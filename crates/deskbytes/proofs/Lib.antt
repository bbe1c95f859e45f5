-- What `hub_operate` writes is what the screen tells.
pub mod Told
