pub mod LogWords
pub mod Pending
pub mod Readings
pub mod Rules
pub mod OneReader
pub mod LoggedSlots
pub mod LoggedWrites
