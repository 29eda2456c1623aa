pub mod WordOps
pub mod Founds
pub mod ExampleRun
pub mod UnderWay
pub mod OwnSteps
pub mod AccessCounts
pub mod AskedLines
