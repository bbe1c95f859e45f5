-- The contracts of this crate cite the definitions of the crate hub, and what the check finds missing.
pub mod Missing
