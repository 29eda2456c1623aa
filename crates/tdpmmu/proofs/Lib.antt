pub mod Runs
pub mod Woven
pub mod Lived
