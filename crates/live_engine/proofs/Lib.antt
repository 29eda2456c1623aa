pub mod Explains
pub mod SameMemory
pub mod MemoryShown
pub mod AnswersShown
pub mod ClosingShown
