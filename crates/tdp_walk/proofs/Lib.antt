pub mod Walking
pub mod Sweeping
