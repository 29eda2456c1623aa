pub mod SlotRules
pub mod Starving
pub mod DoneLines
pub mod OneChange
pub mod RunLines
pub mod RunOrder
