pub mod HostRunSteps
pub mod HostRunKnows
pub mod HostRunLeft
pub mod HostRunForm
