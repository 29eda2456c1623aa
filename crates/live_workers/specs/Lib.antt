pub mod Posts
pub mod Crews
