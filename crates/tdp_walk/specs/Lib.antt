pub mod Walks
pub mod Sweeps
