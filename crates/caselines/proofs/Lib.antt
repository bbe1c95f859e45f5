pub mod Laws  -- what the loops keep
