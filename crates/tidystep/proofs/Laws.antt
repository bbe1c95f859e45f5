-- Laws of the turns.
pub mod Tidying
