pub mod Touching
pub mod Moving
