pub mod EitherMap
pub mod Claiming
pub mod ClaimTurns
pub mod ClaimTold
pub mod FirstSeen
pub mod ClaimedAlone
pub mod Paging
