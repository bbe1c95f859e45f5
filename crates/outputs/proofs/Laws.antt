-- Why it is so.
pub mod Written
pub mod Schedules
pub mod Every
