-- Lines before a hub is open.
pub mod Opening
