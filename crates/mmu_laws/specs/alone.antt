pub mod LineRuns
pub mod LowestFrames
