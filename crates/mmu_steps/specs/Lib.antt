pub mod Goes
pub mod Waits
