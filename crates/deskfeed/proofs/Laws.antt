-- Working forms of the definitions.
pub mod Feeding
pub mod Sessions
