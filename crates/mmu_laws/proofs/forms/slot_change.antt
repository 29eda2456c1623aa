pub mod SlotChangeFlat
pub mod PublishLogs
pub mod GivenLogs
pub mod BitsPublished
pub mod SlotChangeNearer
