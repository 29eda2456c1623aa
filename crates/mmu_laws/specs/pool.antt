pub mod Enough
pub mod NeedCounts
