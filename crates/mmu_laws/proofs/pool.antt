pub mod Enough
pub mod RetiredPages
pub mod Pigeonhole
pub mod TablesWanted
pub mod WantedSpans
pub mod NeedCounts
