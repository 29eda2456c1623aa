pub mod EntryTopics
pub mod SetWords
pub mod FrameWords
pub mod PageRuns
