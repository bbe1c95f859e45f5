-- What the functions of this crate speak of besides the definitions of the crate hub.
pub mod Small
pub mod Effect
