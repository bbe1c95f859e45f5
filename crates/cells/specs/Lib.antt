-- What records have alike as bytes: numbers, places, phases.
pub mod Bytes  -- numbers of four bytes, and lists by their indices
pub mod Places  -- the places
pub mod Phases  -- names and marks of phases
