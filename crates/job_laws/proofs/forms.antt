pub mod log
