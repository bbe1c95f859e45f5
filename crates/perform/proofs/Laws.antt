-- Laws that the loop's proof cites.
pub mod Codes
pub mod Plans
pub mod Rested
pub mod Comes
pub mod Answers
pub mod Turn
