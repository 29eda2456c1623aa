pub mod Names
pub mod Values
pub mod Endings
pub mod Rows
pub mod Folds
pub mod Laws
