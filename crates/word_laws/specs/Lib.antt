pub mod Words
pub mod Accesses
pub mod Example
