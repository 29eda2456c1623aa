pub mod UsesExcused
