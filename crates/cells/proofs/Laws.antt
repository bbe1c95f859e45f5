pub mod Each  -- a list filled element by element
pub mod Cells  -- a buffer filled part by part
