-- Why they hold.
pub mod EarlyCancel
pub mod LeavesRecord
pub mod FilledInOrder
