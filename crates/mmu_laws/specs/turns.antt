pub mod Breaking
pub mod Removal
pub mod TurnLaws
pub mod FewSteps
