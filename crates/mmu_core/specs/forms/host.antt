pub mod HostSteps
pub mod HostLeft
pub mod HostKnows
pub mod HostForm
