pub mod StartFrames
pub mod StartHosts
pub mod StartPages
pub mod StartTopics
pub mod StartViews
pub mod StartWords
pub mod Starts
