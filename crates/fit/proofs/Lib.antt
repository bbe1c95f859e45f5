-- Why the check meets its contract.
pub mod Laws
