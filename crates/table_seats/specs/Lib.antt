pub mod Rule
pub mod Passes
pub mod Boards
pub mod Owners
pub mod Rooms
