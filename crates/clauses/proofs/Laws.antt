-- Laws of the definitions, by which the functions' proofs and those of a whole record know them.
pub mod Bools
pub mod Ranges
pub mod Listed
