pub mod CachedBehind
pub mod GuestWords
pub mod Asking
