pub mod Closing  -- what is printed of the counts
