pub mod LineStages
pub mod FlatInvariant
pub mod Histories
pub mod FlatLogs
pub mod EachStep
pub mod ArmedSlots
