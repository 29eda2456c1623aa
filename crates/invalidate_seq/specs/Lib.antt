pub mod Checks
pub mod Invalidating
pub mod Stored
