pub mod Causes
pub mod FindsOthers
pub mod Waits
