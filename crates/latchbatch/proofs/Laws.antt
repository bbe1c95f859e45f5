-- Laws that the loop's proof cites.
pub mod Answered
pub mod Upto
