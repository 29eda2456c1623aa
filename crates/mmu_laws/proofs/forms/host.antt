pub mod HostFlat
pub mod HostReady
pub mod HostChangeFlat
pub mod HostEntries
pub mod ExchangeFlat
pub mod HostLines
pub mod HostNearer
pub mod LookNotes
