pub mod Begun
pub mod Ended
pub mod OneChange
pub mod ReadOut
pub mod Splits
