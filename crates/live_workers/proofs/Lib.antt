pub mod Posting
pub mod Mustering
pub mod Joining
