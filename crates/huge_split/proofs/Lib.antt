pub mod LastSteps
