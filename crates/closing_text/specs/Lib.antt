pub mod ByLine
pub mod MemoryText
