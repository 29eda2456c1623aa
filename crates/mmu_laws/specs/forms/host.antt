pub mod HostStages
pub mod HostNotes
