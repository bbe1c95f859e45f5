-- Why the check meets its contract: what the functions' proofs share.
pub mod Laws
