pub mod LeadsDown
pub mod LeafLaws
pub mod OpenFrames
pub mod OwnLeaves
pub mod TopicRuns
pub mod SharedLeaves
pub mod LoadedLeaves
pub mod LoadedRuns
