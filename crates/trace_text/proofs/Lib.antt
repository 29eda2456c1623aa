pub mod Images
pub mod Numbers
pub mod Tells
