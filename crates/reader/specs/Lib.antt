-- Lines out of pieces.
pub mod Reading
