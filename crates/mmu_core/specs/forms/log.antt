pub mod LogSteps
pub mod LogKnows
pub mod LogLeft
pub mod LogOutcomes
pub mod LogTells
pub mod Readings
pub mod LogForm
