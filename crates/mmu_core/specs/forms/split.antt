pub mod SplitSteps
pub mod SplitKnows
pub mod SplitLeft
pub mod SplitForm
