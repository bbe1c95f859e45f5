-- Laws of the definitions, by which callers know them.
pub mod Bools
pub mod Enums  -- whose variants hold a number or nothing
pub mod Phases
pub mod Lists
pub mod Ranges
pub mod Slots
pub mod Seats
pub mod Ring
pub mod Kinds
pub mod Opening
pub mod Rows
pub mod Table
pub mod Printed
pub mod Radios
