pub mod host
pub mod log
