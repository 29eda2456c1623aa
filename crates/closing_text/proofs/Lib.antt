pub mod Actors
pub mod ByLine
pub mod ImageTexts
pub mod Prefixes
