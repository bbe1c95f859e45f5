-- Why the code meets its contracts, and what the stores of an effect come to.
pub mod Laws
