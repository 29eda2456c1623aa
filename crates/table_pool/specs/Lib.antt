pub mod Maps
pub mod ClaimedAlone
pub mod Claims
pub mod Pages
