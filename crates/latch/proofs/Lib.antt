-- Why the definitions of specs/ say what is claimed of them, and why the code meets them.
pub mod Laws  -- of single definitions
pub mod Edges  -- the single cases
