pub mod LeafLaws
pub mod OpenFrames
pub mod LoadedLeaves
