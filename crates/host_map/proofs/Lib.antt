pub mod ContentWords
pub mod Touches
pub mod Changing
pub mod Moving
