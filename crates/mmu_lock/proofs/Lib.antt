pub mod Locked
