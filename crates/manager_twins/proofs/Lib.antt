pub mod FirstDirty
