pub mod host
pub mod host_run
pub mod log
pub mod slot_change
