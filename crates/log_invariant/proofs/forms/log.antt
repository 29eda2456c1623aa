pub mod LogExcuse
pub mod LogUses
pub mod PassedFrames
pub mod PassedPages
pub mod ReadingExcuses
pub mod TakenFrames
pub mod ReadFrames
pub mod TakesBits
