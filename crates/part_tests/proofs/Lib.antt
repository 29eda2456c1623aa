pub mod NextSteps
pub mod InFault
