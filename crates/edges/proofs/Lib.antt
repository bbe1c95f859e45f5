pub mod Edges  -- they hold
