-- Laws of the definitions, by which callers know them.
pub mod Opening
pub mod Slots
