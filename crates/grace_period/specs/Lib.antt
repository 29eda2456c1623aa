pub mod Sections
pub mod Watches
