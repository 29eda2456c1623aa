pub mod Determined
pub mod ExampleWeave
pub mod ExampleLostWrite
