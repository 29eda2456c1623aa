pub mod Copying
pub mod Dirty
pub mod Frames
pub mod HostPages
pub mod Kept
pub mod LogSteps
pub mod Steps
