pub mod HarvestLaws
pub mod LogWords
pub mod LogTraces
pub mod UnlawfulReadings
pub mod ClearTraces
pub mod LogRules
pub mod OneReader
pub mod LoggedWrites
