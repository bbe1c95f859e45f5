-- The paper's marked cases, held against the definitions of `hub`.
pub mod Edges
