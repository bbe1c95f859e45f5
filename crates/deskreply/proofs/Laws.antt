-- Working forms of the definitions.
pub mod Replies
