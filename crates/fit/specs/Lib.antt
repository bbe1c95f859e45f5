-- What is asked of a party.
pub mod Members
