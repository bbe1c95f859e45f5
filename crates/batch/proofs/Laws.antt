-- Laws that the loop's proof cites.
pub mod Reachable
pub mod Answered
pub mod Responses
