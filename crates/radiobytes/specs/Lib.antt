-- The radios of a record among its bytes.
pub mod Read  -- which they are
pub mod Written  -- how they are written
