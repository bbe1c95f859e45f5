pub mod Laws
pub mod Run
pub mod Before
