-- Laws of the definitions, by which the check's proof knows them.
pub mod Clauses
