pub mod machine
pub mod lines
pub mod invariant
pub mod alone
pub mod orders
pub mod forms
