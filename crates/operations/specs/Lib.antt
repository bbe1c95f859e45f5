-- M-110, whole operations: what they are, what they come to on a hub at rest.
pub mod Operation
pub mod AtRest
