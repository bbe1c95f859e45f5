-- What the program prints.
pub mod Schedule  -- over a schedule, and over every input
pub mod Run  -- in the paper's run
pub mod Before  -- for inputs of the format before a house's own kinds
