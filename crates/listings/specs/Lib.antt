-- Document 000's listings themselves, and the hub beside them.
pub mod Listings
