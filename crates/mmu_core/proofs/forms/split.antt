pub mod SplitClaims
pub mod SplitKept
pub mod SplitKnown
pub mod SplitPlaces
pub mod SplitTold
