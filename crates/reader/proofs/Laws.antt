-- The laws behind the contracts.
pub mod Pieces
