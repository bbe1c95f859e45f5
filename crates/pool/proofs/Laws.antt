pub mod Pools  -- pools that are alike
pub mod Answers  -- the way of a radio, answer by answer
pub mod Missing  -- radios met, and those that are still to be met
pub mod Fits  -- a hub without radios
