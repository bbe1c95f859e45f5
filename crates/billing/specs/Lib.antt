-- M-200, the monthly bill: counting links, sharing the fee, refusals and bytes, what holds of it; the code's own table.
pub mod Counting
pub mod Sharing
pub mod Bill
pub mod Promises
pub mod Portions
