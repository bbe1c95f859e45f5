-- What the check goes through.
pub mod Window
