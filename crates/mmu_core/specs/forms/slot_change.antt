pub mod SlotChangeSteps
pub mod SlotChangeTells
pub mod SlotTargets
pub mod ArmKnows
pub mod SlotChangeLeft
pub mod SlotChangeKnows
pub mod SlotChangeForm
