-- What the shells and their callers share.
pub mod Locals  -- the locals of a record's fields, as many as it has
pub mod Body  -- the walk of a shell's code, its types left open
pub mod OverFields  -- the function over the fields that a shell calls
pub mod InPlace  -- the signature of a shell
pub mod Shell  -- what a shell does, whatever its parameters and what it tells
pub mod Tagged  -- the shells of one call each
pub mod Lent  -- a record that is lent to a shell
pub mod OnBoard  -- a function by value over the shells
