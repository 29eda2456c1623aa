pub mod LogCommandLaws
pub mod LogStages
pub mod ReadSoFar
pub mod ReadingsAlone
pub mod ExampleReads
pub mod ExampleOwed
pub mod ExampleManual
pub mod LogNotes
