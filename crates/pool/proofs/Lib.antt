-- Why the code meets its contracts.
pub mod Laws
