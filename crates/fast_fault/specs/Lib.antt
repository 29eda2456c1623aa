pub mod Fasts
