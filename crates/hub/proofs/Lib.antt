-- Why the definitions of specs/ say what the paper claims of them, and why the code meets them.
pub mod Laws  -- of single definitions
pub mod Invariant  -- why the permits add up
pub mod Radios  -- why no radio is lost or doubled
pub mod Window  -- the record beside the unbounded queue
pub mod Demand3  -- the third demand
pub mod RadiosKept  -- what is claimed of radios
pub mod Calm  -- how long until calm
pub mod OwnKinds  -- what is claimed of a house's own kinds
pub mod Widths  -- what is claimed of places of a byte
