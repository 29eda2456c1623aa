pub mod FirstUsable
