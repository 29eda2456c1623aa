pub mod FirstSlot
pub mod Searching
pub mod ToldSearch
