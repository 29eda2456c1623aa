pub mod Entering
pub mod Flushing
