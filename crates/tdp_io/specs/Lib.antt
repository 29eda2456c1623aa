pub mod Ends
pub mod Memory
pub mod Standard
pub mod Steps
