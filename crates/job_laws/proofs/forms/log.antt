pub mod ReadOut
