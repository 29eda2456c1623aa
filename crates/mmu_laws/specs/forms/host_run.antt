pub mod HostRunStages
pub mod HostRunNotes
