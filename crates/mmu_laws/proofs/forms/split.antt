pub mod SplitFlat
pub mod SplitNearer
