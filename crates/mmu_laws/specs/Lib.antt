pub mod flat
pub mod alone
pub mod causes
pub mod turns
pub mod pool
pub mod leaves
pub mod steps
pub mod forms
