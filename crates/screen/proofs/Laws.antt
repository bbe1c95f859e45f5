-- Working forms of the definitions.
pub mod Lists
pub mod Holders
pub mod Fit
pub mod Walks
pub mod Places
pub mod Moves
pub mod Chains
pub mod Check
pub mod Answers
pub mod Steps
